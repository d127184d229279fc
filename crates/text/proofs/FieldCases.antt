-- Cases C and E of docs/METHOD.md as they are printed, by computing the definitions. Assumes
-- nothing.
use mathlib.Core.Path.{◌≡◌, refl}
use mathlib.Core.List.{flatten}
use lib.IntN.{pos}
use lib.ListN.{replicate}
use Rattle.whole.specs.Lists.{up_to}
use Rattle.model.specs.planning.Quantities.{finer}
use Rattle.model.specs.planning.Leg.{cruise}
use Rattle.model.specs.planning.Outcome.{words, call}
use Rattle.model.specs.cases.Case.{words_c, one_axis, rest_to}
use Rattle.text.specs.Printed.{ascii, decimal, printed_number, labelled, cell_text, row_line, arrival_line}
use Rattle.text.specs.Printed.{refusal_line, printed}

pub printed-C : printed (call (words words_c) (replicate 8192 (pos 0)))
    ≡ ascii "arrival 4\n0 0 0 86\n1 43 86 -1\n2 129 85 0\n3 214 85 -85\n4 256 0 0\n"
unfolding cruise finer flatten up_to decimal printed_number labelled cell_text row_line arrival_line printed
printed-C = refl

pub printed-E : printed (call (one_axis 3 (rest_to 4)) (replicate 8192 (pos 0)))
    ≡ ascii "refused 8 place 0 axes 1 arrival 0\n"
unfolding cruise finer decimal labelled refusal_line printed
printed-E = refl
