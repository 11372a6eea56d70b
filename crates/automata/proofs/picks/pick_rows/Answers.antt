use mathlib.Core.Path.{refl, ◌∙◌}
use Rattle.automata.proofs.PickWalks.{cuts_start, cuts_all, cuts_end, cut_stands, cuts_go}
use Rattle.automata.proofs.picks.pick_rows.Goals as goal

pub loop-row-init : goal.loop-row-init
loop-row-init c =
    rw (c.into_iter-row-iterator.ensures.into_iter_gives, c.chunks_exact-row-items.ensures.rest, c.chunks_exact-row-items.ensures.size)
    (record { size = refl; cuts = cuts_start c.requires })

pub returns-then-picked-x : goal.returns-then-picked-x
returns-then-picked-x c = cuts_all c.loop-row.invariant.cuts c.if-picked-x.true

pub pick_row-picked-requires : goal.pick_row-picked-requires
pick_row-picked-requires c =
    let h = c.loop-row.invariant in
    let s = c.in-Some.ensures.steps in
    cut_stands h.cuts _ _ s.1.0 (s.1.1 ∙ h.size)

pub loop-row-preserved : goal.loop-row-preserved
loop-row-preserved c =
    let h = c.loop-row.invariant in
    let s = c.in-Some.ensures.steps in
    record { size = s.0 ∙ h.size; cuts = cuts_go h.cuts _ _ s.1.0 (s.1.1 ∙ h.size) _ c.pick_row-picked.ensures }

pub returns : goal.returns
returns c =
    let h = c.loop-row.invariant in
    let s = c.in-None.ensures.steps in
    cuts_end h.cuts (rw h.size at s.1.0)
