-- One more entry is a twin exactly if the last entry of its lower node has the same higher node.
use Rattle.std.proofs.Common.{◌+◌, get_or, sym, ◌∙◌, subst, arith}
use Rattle.std.proofs.lemmas.List.{get_or_default}
use Rattle.std.proofs.lemmas.List.Elements.{Contains-get_or}
use Rattle.ch_hierarchy.specs.declared.placing.Placed.{Placed}
use Rattle.ch_hierarchy.specs.Doubles.{IsLessened}
use Rattle.ch_hierarchy.proofs.code.Doubled.{IsTwinBelow, none_met, met_before, none_before, next_last, twin_met, none_more}
use Rattle.ch_hierarchy.proofs.code.Doubled.{twins_all, lessened_none}
use Rattle.ch_hierarchy.proofs.doubles.first_twin.Goals.{then-index-entry, else-index-entry}
use Rattle.ch_hierarchy.proofs.doubles.first_twin.Goals as goal

-- the default entry of a read past the end of the entries
blank : Placed
blank = record { lower = 0; higher = 0; place = 0 }

pub loop-entry-init : goal.loop-entry-init
loop-entry-init c = record {
  last = none_met c.args.n c.args.entries.now c.requires.order c.requires.below _ (c.in_ok-last.ensures.items_if_clones_equal (λ y p. p));
  least = lessened_none (IsTwinBelow c.args.entries.now 0) c.args.known (λ q t. let low = t.4 in omega arith);
}

pub index-requires : goal.index-requires
unfolding blank
index-requires c =
    let below = (c.requires.below _ (Contains-get_or c.args.entries.now c.loop-entry.entry-index blank c.loop-entry-test.true)).0 in
    omega (arith, below, c.loop-entry.invariant.last.size)

pub index_mut-requires : goal.index_mut-requires
unfolding blank
index_mut-requires c =
    let below = (c.requires.below _ (Contains-get_or c.args.entries.now c.loop-entry.entry-index blank c.loop-entry-test.true)).0 in
    omega (arith, below, c.loop-entry.invariant.last.size)

pub loop-entry-preserved : goal.loop-entry-preserved
unfolding blank
loop-entry-preserved c =
    let n = c.args.n in
    let entries = c.args.entries.now in
    let i = c.loop-entry.entry-index in
    let last = c.loop-entry.last.items in
    let was = c.loop-entry.invariant in
    let lt = c.loop-entry-test.true in
    let lower = (get_or entries i blank).lower in
    let below = (c.requires.below _ (Contains-get_or entries i blank lt)).0 in
    let read = get_or_default last lower 0 c.index.result.now (omega (arith, below, was.last.size)) ∙ sym c.index.ensures in
    let order = c.requires.order in
    let nodes = c.requires.below in
    record {
      last = next_last n entries order nodes i last blank lt was.last;
      least = elim c.if-index-entry.branch [
        | then-index-entry w ↦ subst (IsLessened (IsTwinBelow entries (i + 1)) c.args.known) (sym w.least-is)
            (twin_met n entries order nodes i last blank lt was.last c.args.known c.loop-entry.least w.lesser-least.result
            (met_before n entries order nodes i last blank lt was.last (read ∙ w.if-index-entry.true)) was.least w.lesser-least.ensures)
        | else-index-entry w ↦ subst (IsLessened (IsTwinBelow entries (i + 1)) c.args.known) (sym w.least-is)
            (none_more n entries order nodes i last blank lt was.last c.args.known c.loop-entry.least
            (none_before n entries order nodes i last blank lt was.last (λ same. w.if-index-entry.false (sym read ∙ same))) was.least)
      ];
    }

pub returns : goal.returns
returns c = twins_all c.args.n c.args.entries.now c.requires.order c.requires.below c.loop-entry.entry-index _ _
    c.loop-entry-test.false c.loop-entry.invariant.least
