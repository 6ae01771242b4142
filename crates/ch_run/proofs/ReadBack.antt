-- The text of a hierarchy that is right for a graph names this hierarchy again.
use Rattle.std.proofs.Common.{◌≡◌, ℕ, ◌+◌, List, [], ◌∷◌, ◌++◌, length, map, get_or, Contains, Option, Some}
use Rattle.std.proofs.Common.{None, refl, sym, ◌∙◌, ap, subst, arith, append_assoc}
use Rattle.std.specs.Prelude.{codes, decimal}
use Rattle.std.specs.List.{flat_map}
use Rattle.std.proofs.lemmas.Nat.{mul-le}
use Rattle.std.proofs.lemmas.List.{get_or_default}
use Rattle.std.proofs.lemmas.List.Concat.{flat_map-append}
use Rattle.std.proofs.lemmas.List.Folds.{flat_map-map}
use Rattle.ch_graph.specs.declared.limits.TheConstants.{MOST_NODES}
use Rattle.ch_graph.specs.declared.saved.SavedLeg.{SavedLeg}
use Rattle.ch_graph.specs.Graph.{Network}
use Rattle.ch_graph.specs.Saved.{OrderAndLegs}
use Rattle.ch_read.specs.Names.{NamesSaved}
use Rattle.ch_read.proofs.WrittenLines.{fed, text_of}
use Rattle.ch_read.proofs.WrittenSaved.{middle_word, order_line, leg_line, saved_lines, IsLegWithin, AreWithin}
use Rattle.ch_read.proofs.SavedReadBack.{reads_back}
use Rattle.ch_hierarchy.specs.Hierarchy.{LevelsAndLegs, nodes_of}
use Rattle.ch_hierarchy.specs.Kept.{IsFounded, IsKept}
use Rattle.ch_hierarchy.specs.Saved.{NamesHierarchy}
use Rattle.ch_hierarchy.specs.Written.{IsByLevel, written}
use Rattle.ch_hierarchy.proofs.theory.NamedLegs.{few_legs, leg_bounds}
use Rattle.ch_hierarchy.proofs.theory.SavedLevels.{in_row_below}
use Rattle.ch_hierarchy.proofs.theory.WrittenLegs.{written_names, written_kept}
use Rattle.ch_contract.proofs.theory.BuiltKept.{hierarchies_kept}
use Rattle.ch_run.specs.SavedTextLaws.{HierarchyTextsReadBack, SavedTextsReadBack}
use Rattle.ch_text.specs.SaveText.{middle_text, order_text, leg_text, saved_text}

-- the text is that of its lines, made of words

same_middle : (m : Option ℕ) → middle_text m ≡ middle_word m
same_middle None = refl
same_middle (Some v) = refl

leg_words : (a b c d e : List ℕ) →
    codes "l " ++ a ++ codes " " ++ b ++ codes " " ++ c ++ codes " " ++ d ++ codes " " ++ e ++ codes "\n"
    ≡ fed (codes "l") (a ∷ b ∷ c ∷ d ∷ e ∷ [])
leg_words a b c d e = simp (append_assoc)

same_leg : (l : SavedLeg) → leg_text l ≡ fed (leg_line l).0 (leg_line l).1
same_leg l =
    leg_words (decimal (l.from + 1)) (decimal (l.to + 1)) (decimal l.cost.weight) (decimal l.cost.arcs) (middle_text l.middle)
    ∙ ap (λ t. fed (codes "l") (decimal (l.from + 1) ∷ decimal (l.to + 1) ∷ decimal l.cost.weight ∷ decimal l.cost.arcs ∷ t ∷ []))
    (same_middle l.middle)

heading_words : (a b order legs : List ℕ) →
    codes "p ch " ++ a ++ codes " " ++ b ++ codes "\n" ++ order ++ legs ≡ fed (codes "p") (codes "ch" ∷ a ∷ b ∷ []) ++ (order ++ legs)
heading_words a b order legs = simp (append_assoc)

same_text : (s : OrderAndLegs) → saved_text s ≡ text_of (saved_lines s)
same_text s =
    let parts : flat_map order_text s.order ++ flat_map leg_text s.legs ≡ text_of (map order_line s.order ++ map leg_line s.legs) =
    (λ i. flat_map order_text s.order ++ flat_map (λ l. same_leg l i) s.legs)
    ∙ sym (flat_map-append (λ l. fed l.0 l.1) (map order_line s.order) (map leg_line s.legs)
    ∙ (λ i. flat_map-map (λ l. fed l.0 l.1) order_line s.order i ++ flat_map-map (λ l. fed l.0 l.1) leg_line s.legs i)) in
    heading_words (decimal (length s.order)) (decimal (length s.legs)) (flat_map order_text s.order) (flat_map leg_text s.legs)
    ∙ ap (λ t. fed (codes "p") (codes "ch" ∷ decimal (length s.order) ∷ decimal (length s.legs) ∷ []) ++ t) parts

module _ (g : Network) (H : LevelsAndLegs) (order : List ℕ) (kept : IsKept g H) (by : IsByLevel H order) where
  names : NamesHierarchy (written H order) H
  names = written_names H order kept.levelled by

  -- a leg that is written is within the limits of files
  legs_within : (l : SavedLeg) → Contains (written H order).legs l → IsLegWithin g.nodes l
  legs_within l h =
      let leg = (names.legs l.from l.to l.cost l.middle).1 h in
      let bounds = leg_bounds H kept.levelled l leg in
      let ends = bounds.0 in
      let cost = bounds.1 in
      let size = kept.nodes in
      let most = kept.levelled.count in
      record {
        from = omega arith;
        to = omega arith;
        weight = cost.0;
        arcs = omega arith;
        middle = λ v is. (let founded = subst (IsFounded g H l.from l.to l.cost) is (kept.founded l.from l.to l.cost l.middle leg) in
            let inside = in_row_below H.down (nodes_of H) v founded.0 kept.levelled.down.0 founded.2 in omega arith);
      }

  -- the order and the legs that are written are within the limits of files
  are_within : AreWithin g.nodes (written H order)
  are_within =
      let size = kept.nodes in
      let most = kept.levelled.count in
      let few = few_legs (written H order) H names in
      let square = mul-le (nodes_of H) (nodes_of H) MOST_NODES MOST_NODES (omega arith) (omega arith) in
      record {
        small = omega arith;
        count = by.nodes.count ∙ kept.nodes;
        few = omega arith;
        nodes = λ v h. (let inside = by.nodes.within h.0 h.1 in
            let is : get_or order h.0 0 ≡ v = get_or_default order h.0 0 v h.1 ∙ h.2 in omega arith);
        legs = legs_within;
      }

-- the text names the hierarchy again
pub hierarchy_reads_back : HierarchyTextsReadBack
hierarchy_reads_back g H text kept (order, by, is) = (
  written H order,
  subst (λ t. NamesSaved t g.nodes (written H order)) (sym (is ∙ same_text (written H order)))
      (reads_back g.nodes (written H order) (are_within g H order kept by)),
  written_kept g H order kept by,
)

-- the text that is saved of a graph names its hierarchy again
pub saved_reads_back : SavedTextsReadBack
saved_reads_back by g h text limits bound (H, built, is) =
    (H, built, hierarchy_reads_back g H text (hierarchies_kept by g h H limits bound built) is)
