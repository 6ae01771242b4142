-- The rows by searches, or by a sweep over all nodes, are those of the graph for which the hierarchy is right.
use Rattle.std.proofs.Common.{ap, ◌∙◌}
use Rattle.ch_rows.specs.Near.{Wanted, wanted_within}
use Rattle.ch_run.proofs.Texts.{made_of_graph}
use Rattle.ch_run.proofs.run.near_texts.near_by.Goals as goal

pub swept_text-requires-clause-few : goal.swept_text-requires-clause-few
swept_text-requires-clause-few g c = λ κs within. rw c.deref.ensures.value c.in_ok-all-in-All.ensures.few

pub returns-in_ok-all-in-All-clause-text : goal.returns-in_ok-all-in-All-clause-text
returns-in_ok-all-in-All-clause-text g c =
    made_of_graph c.args.hierarchy.now c.args.options.now c.args.sources.now c.args.targets.now c.in_ok-near.near
    c.swept_text.result c.in_ok-near.ensures
    (rw (c.in-All.is, ← c.nodes-nodes.ensures.nodes, ← c.in_ok-all-in-All.ensures.nodes, ← c.deref.ensures.value) c.swept_text.ensures.text)

pub returns-in-Listed-clause-text : goal.returns-in-Listed-clause-text
returns-in-Listed-clause-text g c =
    let within = c.args.options.now.within in
    made_of_graph c.args.hierarchy.now c.args.options.now c.args.sources.now c.args.targets.now (wanted_within c.new.result within)
    c.text.result (ap (λ (w : Wanted). wanted_within w within) (c.new.ensures ∙ c.in_ok-near.ensures))
    (rw (c.in-Listed.is, ← c.deref-in-Listed.ensures.value) c.text.ensures.text)

pub returns-in-Listed-2-clause-text : goal.returns-in-Listed-2-clause-text
returns-in-Listed-2-clause-text g c =
    made_of_graph c.args.hierarchy.now c.args.options.now c.args.sources.now c.args.targets.now c.in_ok-near.near
    c.swept_text-in-Listed-2.result c.in_ok-near.ensures
    (rw (c.in-Listed-2.is, ← c.deref-in-Listed-2.ensures.value) c.swept_text-in-Listed-2.ensures.text)
