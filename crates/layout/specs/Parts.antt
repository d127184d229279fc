-- The answer of a call for rows in parts.
use Rattle.model.specs.declared.PartAnswer.{PartAnswer}
use Rattle.layout.specs.declared.row_parts.PolgamirPartAnswer.{PolgamirPartAnswer}

-- the answer that C's holds
abbrev pub part_of : PolgamirPartAnswer → PartAnswer
part_of r =
    record {
      answer = record { number = r.number; place = r.place; mask = r.mask; arrival = r.arrival };
      rows = r.rows;
    }
