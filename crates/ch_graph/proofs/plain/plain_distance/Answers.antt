-- Once every arc is relaxed, the label of the end is the distance: a walk has its weight, and no walk weighs less.
use Rattle.std.proofs.Common.{set, replicate, ◌≡◌, ℕ, ◌<◌, arith, length, Option, Some, None, sym, ◌∙◌, List, All, ◌++◌, get_or, take}
use Rattle.std.proofs.lemmas.List.{get_or_append_left, get_or_default, get_or-take}
use Rattle.std.proofs.lemmas.Option.{same_Some, none-some}
use Rattle.ch_graph.specs.Graph.{Network}
use Rattle.ch_graph.specs.Walk.{IsAnswer}
use Rattle.ch_graph.specs.Relaxing.{weight_at, IsPartial, IsRelaxed}
use Rattle.ch_graph.proofs.Labels.{partial_first}
use Rattle.ch_graph.proofs.WalkLemmas.{relaxed_walk}
use Rattle.ch_graph.proofs.plain.plain_distance.Goals as goal

-- once every arc is relaxed, the label of t is the distance
settled : (g : Network) (s t : ℕ) (best : List (Option ℕ)) (o : Option ℕ) → o ≡ weight_at best t → IsPartial g s best →
    All (IsRelaxed best) g.arcs → IsAnswer g s t o
settled g s t best None e p relaxed = λ arcs w. let r = relaxed_walk g best s t 0 arcs relaxed p.start w in none-some _ (e ∙ r.1)
settled g s t best (Some x) e p relaxed = record {
  walk = p.walks t x (sym e);
  least = λ arcs w. let r = relaxed_walk g best s t 0 arcs relaxed p.start w in let same = same_Some _ _ (e ∙ r.1) in
      let le = r.2 in omega arith;
}

-- a read from the vector after its slice was lent
read : (new rest : List (Option ℕ)) (len e : ℕ) (r : Option ℕ) → e < len → e < length new → r ≡ get_or (take len (new ++ rest)) e r →
    r ≡ weight_at new e
read new rest len e r low within is =
    is ∙ get_or-take len (new ++ rest) e r low ∙ get_or_append_left new rest r e within ∙ get_or_default new e r None within

-- the first labels, as the vector lends them
first : (g : Network) (s nodes : ℕ) (best lent : List (Option ℕ)) → s < g.nodes → nodes ≡ g.nodes →
    best ≡ set (replicate nodes None) s (Some 0) → lent ≡ best → IsPartial g s lent
first g s nodes best lent start size is same = rw (same ∙ is, size) (partial_first g s start)

pub relax_to_rest-requires : goal.relax_to_rest-requires
relax_to_rest-requires c =
    (c.args.start, first _ _ _ _ _ c.requires.start c.nodes.ensures.nodes c.in_ok-best.ensures c.deref_mut.ensures.value)

pub returns : goal.returns
returns c =
    let known = c.relax_to_rest.ensures.known c.args.start
    (first _ _ _ _ _ c.requires.start c.nodes.ensures.nodes c.in_ok-best.ensures c.deref_mut.ensures.value) in
    let size = known.nodes in
    let kept = c.relax_to_rest.auto.best in
    let len = c.deref_mut.ensures.len in
    settled _ _ _ c.relax_to_rest.new.best _ (read c.relax_to_rest.new.best _ _ _ _ (omega arith) (omega arith) c.index.ensures)
    known c.relax_to_rest.ensures.relaxed
