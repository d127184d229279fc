use Rattle.std.proofs.Common.{◌+◌, length, get_or, arith, sym, ap, ◌∙◌}
use lib.ListN.{set, length-set}
use lib.Seq.{set-get_or, get_or-set_other}
use Rattle.layout.proofs.Named.{is-named, not_named, named_from, named-next, named-all}
use Rattle.layout.proofs.named_of.Goals as goal
use Rattle.layout.proofs.named_of.Goals.{then-bits-eq1, else-bits-eq1}

pub loop-i-preserved : goal.loop-i-preserved
loop-i-preserved g c =
    let h = c.loop-i in
    let l = c.args.list in
    let u = c.args.unset in
    elim c.if-bits-eq1.branch [
      | then-bits-eq1 w ↦ record {
        six = h.invariant.six;
        long = ap length w.named-is ∙ length-set h.named h.i _ ∙ h.invariant.long;
        unset = λ j q k. ap (λ a. get_or a j u) w.named-is
            ∙ get_or-set_other h.named h.i j _ u (λ e. omega arith)
            ∙ h.invariant.unset j (omega arith) k;
        stored = λ f e.
            ap (named_from f u l (h.i + 1) _) (w.named-is
            ∙ ap (set h.named h.i) (e _ _ w.into.ensures
            ∙ is-named f u l _ h.i h.bits (omega (arith, h.invariant.six)) (omega arith)))
            ∙ named-next f u l h.i h.bits h.named
            (omega (arith, h.invariant.six)) (omega (arith, h.invariant.long))
            ∙ h.invariant.stored f e;
      }
      | else-bits-eq1 w ↦ record {
        six = h.invariant.six;
        long = ap length w.named-is ∙ h.invariant.long;
        unset = λ j q k. ap (λ a. get_or a j u) w.named-is ∙ h.invariant.unset j (omega arith) k;
        stored = λ f e.
            ap (named_from f u l (h.i + 1) _) (w.named-is
            ∙ sym (set-get_or h.named h.i u)
            ∙ ap (set h.named h.i) (h.invariant.unset h.i (omega arith) (omega arith)
            ∙ not_named f u l h.i h.bits (λ t. omega arith)))
            ∙ named-next f u l h.i h.bits h.named
            (omega (arith, h.invariant.six)) (omega (arith, h.invariant.long))
            ∙ h.invariant.stored f e;
      }
    ]

pub returns : goal.returns
returns g c f e =
    let h = c.loop-i in
    sym (named-all f c.args.unset c.args.list h.i h.bits h.named (omega (arith, h.invariant.six))
    (omega (arith, h.invariant.long))) ∙ h.invariant.stored f e
