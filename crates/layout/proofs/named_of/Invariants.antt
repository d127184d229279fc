-- `named_of` gives what the named entries stand for: before i it is stored, from i on all are
-- unset, and the bits that are left name those to come.
use Rattle.std.proofs.Common.{◌≡◌, ℕ, ◌<◌, ◌≤◌, length, get_or}
use Rattle.layout.specs.Jobs.{named_of}
use Rattle.layout.proofs.Named.{named_from}
use Rattle.layout.proofs.named_of.Given as goal

abbrev pub invariant-loop-i : goal.invariant-loop-i
invariant-loop-i g l =
    record {
      six : length l.list ≡ 6;
      long : length l.named ≡ 6;
      unset : (j : ℕ) → l.i ≤ j → j < 6 → get_or l.named j l.fn.unset ≡ l.fn.unset;
      stored : (f : _) → ((x y : _) → g.T.Into.converts x y → y ≡ f x)
          → named_from f l.fn.unset l.list l.i l.bits l.named ≡ named_of f l.fn.unset l.fn.mask l.list;
    }
