-- Frames: they serve all weights of the arcs, and hierarchies over them are customized in the order that a run read or found.
use Rattle.std.proofs.Common.{◌≡◌, ℕ, Bool, true, false, if◌then◌else◌, List, [], ◌∷◌, map, Option, Some, None}
use Rattle.std.proofs.Common.{refl, sym, ap, ◌∙◌, subst, inl, Ok, Err}
use Rattle.std.specs.Prelude.{IfOk, Result, is_some}
use Rattle.std.specs.declared.alloc.AllocError.{AllocError}
use Rattle.ch_hierarchy.specs.Kept.{IsKept}
use Rattle.ch_graph.specs.declared.arc.InArc.{InArc}
use Rattle.ch_graph.specs.Graph.{Network}
use Rattle.ch_hierarchy.specs.Hierarchy.{LevelsAndLegs}
use Rattle.ch_custom.specs.Customizing.{HaveSameEnds}
use Rattle.ch_custom.specs.Topologies.{IsCustomized, OrderAndPairs}
use Rattle.ch_custom.proofs.theory.Customizing.{topologies_serve_all_weights}
use Rattle.ch_read.specs.declared.new_weights.NewWeight.{NewWeight}
use Rattle.ch_run.specs.Customized.{IsCustomizedIn}
use Rattle.ch_run.specs.Frames.{IsCustomizedBy, IsCustomizedFrom, IsFrameFor, IsFrameFrom, IsTopologyFor, OrderAndTopology, is_customized}
use Rattle.ch_run.specs.Run.{CustomizedFile, FoundOrder, SourceReading}
use Rattle.ch_run.specs.Weighing.{is_for, reweighed, weighed, weighed_once}

abbrev ends_of : InArc → ℕ × ℕ
ends_of a = (a.from, a.to)

-- new weights change no end of an arc
once_ends : (new : NewWeight) (a : InArc) → ends_of (weighed_once new a) ≡ ends_of a
once_ends new a = at (is_for new a)
  where
    at : (t : Bool) → ends_of (if t then record { from = a.from; to = a.to; weight = new.weight } else a) ≡ ends_of a
    at true = refl
    at false = refl

weighed_ends : (listed : List NewWeight) (a : InArc) → ends_of (weighed listed a) ≡ ends_of a
weighed_ends [] a = refl
weighed_ends (new ∷ listed) a = weighed_ends listed (weighed_once new a) ∙ once_ends new a

all_ends : (listed : List NewWeight) (arcs : List InArc) →
    map {B = ℕ × ℕ} ends_of (map (weighed listed) arcs) ≡ map {B = ℕ × ℕ} ends_of arcs
all_ends listed [] = refl
all_ends listed (a ∷ arcs) =
    ap (λ (e : ℕ × ℕ). e ∷ map {B = ℕ × ℕ} ends_of (map (weighed listed) arcs)) (weighed_ends listed a)
    ∙ ap (λ (es : List (ℕ × ℕ)). ends_of a ∷ es) (all_ends listed arcs)

-- so the frame of a graph is one of the graph with new weights
pub frame_weighed : (g : Network) (listed : List NewWeight) (frame : OrderAndTopology) → IsFrameFor g frame →
    IsFrameFor (reweighed g listed) frame
frame_weighed g listed frame is = record { each = is.each; topology = at frame.topology is.topology }
  where
    same : HaveSameEnds g (reweighed g listed)
    same = (refl, sym (all_ends listed g.arcs))

    back : HaveSameEnds (reweighed g listed) g
    back = (refl, all_ends listed g.arcs)

    at : (t : Option OrderAndPairs) → IsTopologyFor g frame.order t → IsTopologyFor (reweighed g listed) frame.order t
    at None more = λ rows topology. more rows (topologies_serve_all_weights (reweighed g listed) g frame.order rows back topology)
    at (Some t) (order, size, topology) =
        (order, size, topologies_serve_all_weights g (reweighed g listed) t.order t.pairs same topology)

-- a hierarchy over the frame is customized in the order that the run read or found
pub customized_from : (source : SourceReading) (n : ℕ) (frame : Option OrderAndTopology) → IsFrameFrom source n frame → (g : Network)
    (H : LevelsAndLegs) → g.nodes ≡ n → IsCustomizedBy frame g H → IsCustomizedFrom source g H
customized_from (CustomizedFile order hops) n frame (f, is, bound, (bytes, all, (s, names, same))) g H nodes made =
    let over : IsCustomizedIn g f.hops f.order H = subst (λ (o : Option OrderAndTopology). IsCustomizedBy o g H) is made in (
      bytes,
      all,
      (
        s,
        rw nodes names,
        subst (λ h. IsCustomizedIn g h s.order H) bound
            (subst (λ (o : List ℕ). IsCustomizedIn g f.hops o H) (sym same) over),
      ),
    )
customized_from (FoundOrder hops) n frame (f, is, bound) g H nodes made =
    let over : IsCustomizedIn g f.hops f.order H = subst (λ (o : Option OrderAndTopology). IsCustomizedBy o g H) is made in
    (f.order, subst (λ h. IsCustomizedIn g h f.order H) bound over)
customized_from _ n frame is g H nodes made = absurd (subst (λ (o : Option OrderAndTopology). IsCustomizedBy o g H) is made)

-- there is a frame exactly if the hierarchy is customized
pub framed_is : (source : SourceReading) (n : ℕ) (frame : Option OrderAndTopology) → IsFrameFrom source n frame →
    is_some frame ≡ is_customized source
framed_is (CustomizedFile order hops) n frame is = ap (λ (o : Option OrderAndTopology). is_some o) is.1
framed_is (FoundOrder hops) n frame is = ap (λ (o : Option OrderAndTopology). is_some o) is.1
framed_is _ n frame is = ap (λ (o : Option OrderAndTopology). is_some o) is

-- a hierarchy that is customized over the topology of a frame is customized in its order
pub customized_over : (g : Network) (frame : OrderAndTopology) (t : OrderAndPairs) (r : Result LevelsAndLegs AllocError) →
    IsFrameFor g frame → frame.topology ≡ Some t → IfOk r (IsCustomized g t.order) → IfOk r (IsKept g) →
    IfOk r (IsCustomizedIn g frame.hops frame.order)
customized_over g frame t (Ok H) is same made kept =
    let fits = subst (IsTopologyFor g frame.order) same is.topology in
    record { each = is.each; made = inl (subst (λ (o : List ℕ). IsCustomized g o H) fits.0 made); kept = kept }
customized_over g frame t (Err e) is same made kept = tt
