-- What the structs of a search of include/polgamir.h stand for.
use Rattle.std.specs.Prelude.{ℕ}
use Rattle.model.specs.declared.Report.{Report}
use Rattle.model.specs.declared.Report.TheVariants.{Found, Spent, Nothing}
use Rattle.model.specs.declared.SearchAnswer.{SearchAnswer}
use Rattle.layout.specs.declared.searches.PolgamirSearchAnswer.{PolgamirSearchAnswer}

-- 0 for none, 1 for found, 2 for spent
abbrev pub report_number : Report → ℕ
report_number (Found n) = 1
report_number (Spent next) = 2
report_number Nothing = 0

abbrev pub next_candidate : Report → ℕ
next_candidate (Found n) = 0
next_candidate (Spent next) = next
next_candidate Nothing = 0

-- an answer in C's layout
abbrev pub searched_of : SearchAnswer → PolgamirSearchAnswer
searched_of r =
    record {
      number = r.number;
      mask = r.mask;
      place = r.place;
      arrival = r.arrival;
      report = report_number r.report;
      next = next_candidate r.report;
      tried = r.tried;
    }
