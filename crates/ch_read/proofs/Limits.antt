-- The value of an accepted file is within the limits. An error is the fault of the bytes, in both directions.
use Rattle.std.proofs.Common.{◌≡◌, ℕ, ◌-◌, ◌*◌, ◌<◌, ◌≤◌, inl, inr, leb, List, [], ◌∷◌, map, get_or, Option, Some, None, Result, Ok}
use Rattle.std.proofs.Common.{Err, refl, sym, ◌∙◌, ap, subst, arith}
use Rattle.std.specs.Prelude.{All, IsErrAnd, Vec, codes, option_map, slice_get, slice_index}
use Rattle.std.specs.List.{filter_map, cons_option}
use Rattle.std.proofs.lemmas.Bool.{leb-true}
use Rattle.std.proofs.lemmas.List.{length-map}
use Rattle.std.proofs.lemmas.List.Elements.{All-map}
use Rattle.std.proofs.lemmas.Option.{none-some, same_Some}
use Rattle.ch_graph.specs.declared.limits.TheConstants.{MOST_NODES, MOST_ARCS, MOST_WEIGHT}
use Rattle.ch_graph.specs.Graph.{IsArcWithin, IsWithinLimits}
use Rattle.ch_read.specs.declared.fault.ReadFault.{ReadFault}
use Rattle.ch_read.specs.declared.fault.ReadError.{ReadError}
use Rattle.ch_read.specs.declared.fault.ReadError.TheVariants.{Fault, NoMemory}
use Rattle.ch_read.specs.declared.form.Form.{Form}
use Rattle.ch_read.specs.declared.form.Form.TheVariants.{Graph, Queries, Nodes}
use Rattle.ch_read.specs.declared.form.Part.TheVariants.{First}
use Rattle.ch_read.specs.declared.form.Heading.{Heading}
use Rattle.ch_read.specs.Words.{lines, words}
use Rattle.ch_read.specs.Forms.{numbers_after, problem_words, problem_size, heading_from, heading, heading_in, items_in}
use Rattle.ch_read.specs.Checks.{IsFault}
use Rattle.ch_read.specs.Names.{arc_from, pair_from, node_from}
use Rattle.ch_read.specs.Answers.{AnswersWhere, seen_by_items}
use Rattle.ch_read.specs.Reading.{IsItemWithin, IsFile, IsErrorOf}
use Rattle.ch_read.proofs.OneAnswer.{one_fault}
use Rattle.ch_read.proofs.Judging.{bounds}
use Rattle.ch_read.proofs.Numbers.{both}

-- errors

abbrev error_of : (A : Type 0) → ReadError → Result A ReadError
error_of A e = Err e

same_fault : (A : Type 0) (f g : ReadFault) → error_of A (Fault f) ≡ error_of A (Fault g) → f ≡ g
same_fault A f g e = cc

no_fault : (A : Type 0) (f : ReadFault) → error_of A NoMemory ≡ error_of A (Fault f) → ⊥
no_fault A f e = cc

-- if the result is this error, a fault is the result exactly if it is the fault of the bytes, unless memory runs out
pub fault_both_ways : {A : Type 0} (form : Form) (bytes : List ℕ) (result : Result A ReadError) (e : ReadError) →
    IsErrAnd result (λ x. x ≡ e) → IsErrorOf form bytes e →
    (f : ReadFault) → AnswersWhere result (Err (Fault f)) (IsFault form bytes f.line f.kind)
fault_both_ways form bytes (Ok x) e is of f = absurd is
fault_both_ways {A} form bytes (Err x) e is of f = at e is of
  where
    at : (e : ReadError) → x ≡ e → IsErrorOf form bytes e →
        AnswersWhere (error_of A x) (error_of A (Fault f)) (IsFault form bytes f.line f.kind)
    at (Fault g) is of = (
      λ same. subst (λ (h : ReadFault). IsFault form bytes h.line h.kind) (same_fault A g f (ap (error_of A) (sym is) ∙ same)) of,
      λ has. inl (ap (error_of A) (is ∙ ap Fault (one_fault form bytes g f of has))),
    )
    at NoMemory is of = (λ same. absurd (no_fault A f (ap (error_of A) (sym is) ∙ same)), λ has. inr (ap (error_of A) is))

pub error_of_items : {A Z : Type 0} (P : ReadError → Type 0) (result : Result (Vec A Z) ReadError) → IsErrAnd result P →
    IsErrAnd (seen_by_items result) P
error_of_items P (Ok v) is = is
error_of_items P (Err e) is = is

-- limits

-- query files and lists have the number of nodes of their graph
heading_nodes : (form : Form) (n : ℕ) → ((ns : List ℕ) → (heading_from form ns).nodes ≡ n) → (all : List (List ℕ)) (h : Heading) →
    heading_in form all ≡ Some h → h.nodes ≡ n
heading_nodes form n same [] h e = absurd (none-some h e)
heading_nodes form n same (line ∷ all) h e =
    at (numbers_after (codes "p" ∷ problem_words form) (problem_size form) (words line)) e (heading_nodes form n same all h)
  where
    at : (o : Option (List ℕ)) → slice_get
        (cons_option (option_map (heading_from form) o) (filter_map (λ line. heading form (words line)) all)) 0 ≡ Some h →
        (heading_in form all ≡ Some h → h.nodes ≡ n) → h.nodes ≡ n
    at None e more = more e
    at (Some ns) e more = ap (λ (h : Heading). h.nodes) (sym (same_Some (heading_from form ns) h e)) ∙ same ns

pub graph_within : (bytes : List ℕ) (h : Heading) → IsFile Graph bytes h →
    IsWithinLimits (record { nodes = h.nodes; arcs = map arc_from (items_in Graph First (lines bytes)) })
graph_within bytes h file =
    let size = both (leb h.nodes MOST_NODES) (leb h.items.first MOST_ARCS) file.within.0 in
    let items : h.items.first ≤ MOST_ARCS = leb-true h.items.first MOST_ARCS size.1 in
    let few = file.within.1.few in
    record {
      size = (leb-true h.nodes MOST_NODES size.0, omega (arith, length-map (items_in Graph First (lines bytes)) arc_from));
      each = All-map (IsArcWithin h.nodes) arc_from (items_in Graph First (lines bytes))
          (λ k d lt. arc_within (get_or (items_in Graph First (lines bytes)) k d) (file.within.1.each k d lt));
    }
  where
    arc_within : (ns : List ℕ) → IsItemWithin Graph First h.nodes ns → IsArcWithin h.nodes (arc_from ns)
    arc_within ns within =
        let b = bounds Graph First h.nodes ns within in
        record { ends = (b.first_below, b.second_below); weight = leb-true (h.nodes * slice_index ns 2) MOST_WEIGHT within.weight_is }

pub pairs_within : (n : ℕ) (bytes : List ℕ) (h : Heading) → IsFile (Queries n) bytes h →
    All (λ (p : ℕ × ℕ). (p.0 < n) × (p.1 < n)) (map pair_from (items_in (Queries n) First (lines bytes)))
pairs_within n bytes h file =
    All-map (λ (p : ℕ × ℕ). (p.0 < n) × (p.1 < n)) pair_from (items_in (Queries n) First (lines bytes))
    (λ k d lt. pair_within (get_or (items_in (Queries n) First (lines bytes)) k d) (file.within.1.each k d lt))
  where
    pair_within : (ns : List ℕ) → IsItemWithin (Queries n) First h.nodes ns → (slice_index ns 0 - 1 < n) × (slice_index ns 1 - 1 < n)
    pair_within ns within =
        let b = bounds (Queries n) First h.nodes ns within in
        let nodes = heading_nodes (Queries n) n (λ ns. refl) (lines bytes) h file.heading_is in
        (omega (arith, b.first_below, nodes), omega (arith, b.second_below, nodes))

pub nodes_within : (n : ℕ) (bytes : List ℕ) (h : Heading) → IsFile (Nodes n) bytes h →
    All (λ x. x < n) (map node_from (items_in (Nodes n) First (lines bytes)))
nodes_within n bytes h file =
    All-map (λ x. x < n) node_from (items_in (Nodes n) First (lines bytes))
    (λ k d lt. node_within (get_or (items_in (Nodes n) First (lines bytes)) k d) (file.within.1.each k d lt))
  where
    node_within : (ns : List ℕ) → IsItemWithin (Nodes n) First h.nodes ns → slice_index ns 0 - 1 < n
    node_within ns within =
        let b = bounds (Nodes n) First h.nodes ns within in
        let nodes = heading_nodes (Nodes n) n (λ ns. refl) (lines bytes) h file.heading_is in
        omega (arith, b.first_below, nodes)
