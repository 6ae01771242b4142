-- Runs over the same bytes write the same text.
use Rattle.std.proofs.Common.{◌≡◌, ℕ, Bool, true, false, if◌then◌else◌, List, take, Option, Some, None, refl, sym, ap, ◌∙◌, subst}
use Rattle.ch_graph.specs.Graph.{Network}
use Rattle.ch_graph.specs.Saved.{OrderAndLegs}
use Rattle.ch_read.specs.Names.{NamesGraph, NamesNodes, NamesQueries, NamesSaved}
use Rattle.ch_read.proofs.OneAnswer.{graph_answer, nodes_answer, queries_answer, saved_answer}
use Rattle.ch_hierarchy.specs.Hierarchy.{LevelsAndLegs}
use Rattle.ch_hierarchy.specs.Kept.{IsKept}
use Rattle.ch_hierarchy.proofs.theory.OneSaved.{one_saved}
use Rattle.ch_contract.specs.Like.{given_count}
use Rattle.ch_contract.specs.Legs.{IsHopBound}
use Rattle.ch_contract.specs.declared.measure.OrderBy.{OrderBy}
use Rattle.ch_contract.specs.declared.measure.OrderBy.TheVariants.{Depth}
use Rattle.ch_contract.proofs.theory.BuiltKept.{hierarchies_kept}
use Rattle.ch_contract.proofs.theory.OneInTurn.{one_hierarchy_from}
use Rattle.ch_contract.proofs.theory.OneOrder.{one_hierarchy}
use Rattle.ch_text.specs.SaveText.{IsHierarchyText}
use Rattle.ch_text.proofs.OneText.{one_hierarchy_text, one_table_text}
use Rattle.ch_run.specs.NearRun.{AreSources}
use Rattle.ch_run.specs.Run.{CustomizedFile, FoundOrder, GivesOnly, NoFile, NoInput, OneInput, OrderFile, Reading, ReadingIf, ReadsAll}
use Rattle.ch_run.specs.Run.{ReadsGraph, SavedFile, SourceReading}
use Rattle.ch_run.specs.Source.{AreLoaded, IsOfRoutes, IsServing, ReadsSaved, WithLoaded}
use Rattle.ch_run.specs.declared.needed.Needed.TheVariants.{InOrder, Quick}
use Rattle.ch_run.specs.Text.{IsTextBy, writes_routes}
use Rattle.ch_run.specs.TextLaws.{AnswersHaveOneText, HasKnownIf, HasKnownSource, HierarchiesHaveOneText, IsNamed, NearRowsHaveOneText}
use Rattle.ch_run.specs.TextLaws.{SavedNearRowsAreThoseOfTheGraph, TablesHaveOneText}
use Rattle.ch_run.proofs.OneText.{one_rows_text, one_text_by}

-- the bytes of an input name only one value
reads_one : {V : Type 0} (input : Reading) (bytes : List ℕ) → GivesOnly input bytes → (names : List ℕ → V → Type 0) →
    ((x y : V) → names bytes x → names bytes y → x ≡ y) → (x y : V) → ReadsAll input (λ xs. names xs x) →
    ReadsAll input (λ xs. names xs y) → x ≡ y
reads_one input bytes told names one x y a b =
    one x y (subst (λ xs. names xs x) (told a.0 a.1) a.2) (subst (λ xs. names xs y) (told b.0 b.1) b.2)

-- there is one hierarchy that serves in a named order
one_serving : (by : OrderBy) (hops : ℕ) (g : Network) (h : Option LevelsAndLegs) (H K : LevelsAndLegs) →
    IsServing (InOrder by) hops g h H → IsServing (InOrder by) hops g h K → H ≡ K
one_serving by hops g None H K a b = one_hierarchy by g hops H K a b
one_serving by hops g (Some L) H K a b = a ∙ sym b

-- there is one that is saved, if a rule names it
one_to_save : (graph : Reading) (source : SourceReading) (quick : Bool) → IsNamed quick source → (by : OrderBy) (hops : ℕ) (g : Network)
    (h : Option LevelsAndLegs) → AreLoaded graph source g h → (H K : LevelsAndLegs) →
    IsServing (if quick then Quick else InOrder by) hops g h H → IsServing (if quick then Quick else InOrder by) hops g h K → H ≡ K
one_to_save graph source false named by hops g h loaded H K a b = one_serving by hops g h H K a b
one_to_save graph source true named by hops g (Some L) loaded H K a b = a ∙ sym b
one_to_save graph NoFile true named by hops g None loaded H K a b =
    let quick : true ≡ false = named in absurd (let none : ⊥ = cc in none)
one_to_save graph _ true named by hops g None loaded H K a b = absurd loaded

-- a hierarchy that serves in a named order is right for the graph
serving_kept : (graph : Reading) (source : SourceReading) (by : OrderBy) (hops : ℕ) → IsHopBound hops → (g : Network)
    (h : Option LevelsAndLegs) → AreLoaded graph source g h → (H : LevelsAndLegs) →
    IsServing (InOrder by) hops g h H → IsKept g H
serving_kept graph NoFile by hops bound g None loaded H is = hierarchies_kept by g hops H loaded.0 bound is
serving_kept graph NoFile by hops bound g (Some K) (limits, read, same) H is = absurd (let none : ⊥ = cc in none)
serving_kept graph (SavedFile saved) by hops bound g (Some K) loaded H is = subst (IsKept g) (sym is) loaded.1.names.1
serving_kept graph (OrderFile order fresh legs) by hops bound g (Some K) loaded H is = subst (IsKept g) (sym is) loaded.1.kept
serving_kept graph (CustomizedFile order legs) by hops bound g (Some K) loaded H is =
    subst (IsKept g) (sym is) loaded.1.customized.kept
serving_kept graph (FoundOrder legs) by hops bound g (Some K) loaded H is = subst (IsKept g) (sym is) loaded.dissected.1.kept
serving_kept graph _ by hops bound g None loaded H is = absurd loaded

-- a list of nodes, or all nodes
one_sources : (sources : ReadingIf) → HasKnownIf sources → (n : ℕ) (from other : List ℕ) → AreSources sources n from →
    AreSources sources n other → from ≡ other
one_sources NoInput known n from other a b = a ∙ sym b
one_sources (OneInput input) known n from other a b =
    reads_one input known.0 known.1 (λ xs list. NamesNodes xs n list) (nodes_answer known.0 n).one_value from other a b

module _ (graph : Reading) (graph_bytes : List ℕ) (told : GivesOnly graph graph_bytes) where
  one_graph : (g k : Network) → ReadsGraph graph g → ReadsGraph graph k → g ≡ k
  one_graph = reads_one graph graph_bytes told NamesGraph (graph_answer graph_bytes).one_value

  -- one graph was read, and one order and its legs for the hierarchy
  one_order : (input : Reading) (bytes : List ℕ) → GivesOnly input bytes → (g k : Network) (s t : OrderAndLegs) → ReadsGraph graph g →
      ReadsGraph graph k → ReadsSaved input g.nodes s → ReadsSaved input k.nodes t → (g ≡ k) × (s ≡ t)
  one_order input bytes known g k s t read other a b =
      let same = one_graph g k read other in
      (same, reads_one input bytes known (λ xs s. NamesSaved xs g.nodes s) (saved_answer bytes g.nodes).one_value s t a (rw same b))

  -- one graph was loaded, and one hierarchy
  one_loaded : (source : SourceReading) → HasKnownSource source → (g k : Network) (h l : Option LevelsAndLegs) →
      AreLoaded graph source g h → AreLoaded graph source k l → (g ≡ k) × (h ≡ l)
  one_loaded NoFile known g k h l a b = (one_graph g k a.1 b.1, a.2 ∙ sym b.2)
  one_loaded (SavedFile saved) known g k (Some H) (Some K) (s, a) (t, b) =
      let same = one_order saved known.0 known.1 g k s t a.reads_graph b.reads_graph a.reads_saved b.reads_saved in
      (same.0, ap (λ (L : LevelsAndLegs). Some L) (one_saved s H K a.names.0 (rw same.1 b.names.0)))
  one_loaded (OrderFile order fresh hops) known g k (Some H) (Some K) (s, a) (t, b) =
      let same = one_order order known.0 known.1 g k s t a.reads_graph b.reads_graph a.reads_order b.reads_order in
      let first = take (given_count g.nodes fresh) s.order in
      let one = one_hierarchy_from Depth g hops first H K a.like (rw (same.0, same.1) b.like) in
      (same.0, ap (λ (L : LevelsAndLegs). Some L) one)
  one_loaded (CustomizedFile order hops) known g k h l a b = absurd known
  one_loaded (FoundOrder hops) known g k h l a b = absurd known
  one_loaded _ known g k None l a b = absurd a
  one_loaded _ known g k h None a b = absurd b

  both : (source : SourceReading) → HasKnownSource source → {R : Type 0} (P Q : Network → Option LevelsAndLegs → Type 0) →
      WithLoaded graph source P → WithLoaded graph source Q →
      ((g : Network) (h : Option LevelsAndLegs) → AreLoaded graph source g h → P g h → Q g h → R) → R
  both source known P Q (g, h, a, p) (k, l, b, q) so =
      let same = one_loaded source known g k h l a b in
      so g h a p (subst (λ (n : Network). Q n h) (sym same.0) (subst (Q k) (sym same.1) q))

-- so runs have one text of answers
pub answers_one : (graph : Reading) (source : SourceReading) (queries : Reading) → AnswersHaveOneText graph source queries
answers_one graph source queries options told known told_queries text other t u =
    both graph told.0 told.1 source known _ _ t u (λ g h loaded p q.
    let pairs : q.0 ≡ p.0 = reads_one queries told_queries.0 told_queries.1 (λ xs ps. NamesQueries xs g.nodes ps)
    (queries_answer told_queries.0 g.nodes).one_value q.0 p.0 q.1 p.1 in
    one_text_by (writes_routes options) g (IsOfRoutes options g h) (one_serving options.order options.hops.number g h)
    (serving_kept graph source options.order options.hops.number options.hops.in_range g h loaded) p.0 text other p.2
    (subst (λ ps. IsTextBy (writes_routes options) g (IsOfRoutes options g h) ps other) pairs q.2))

-- one table
pub tables_one : (graph : Reading) (source : SourceReading) (sources targets : Reading) → TablesHaveOneText graph source sources targets
tables_one graph source sources targets options told known told_sources told_targets text other t u =
    both graph told.0 told.1 source known _ _ t u (λ g h loaded p q.
    let from : q.0 ≡ p.0 = one_sources (OneInput sources) told_sources g.nodes q.0 p.0 q.2.0 p.2.0 in
    let to : q.1 ≡ p.1 = one_sources (OneInput targets) told_targets g.nodes q.1 p.1 q.2.1 p.2.1 in
    one_table_text g options.within p.0 p.1 text other p.3 (rw (from, to) at q.3))

-- one text of near rows
pub nears_one : (graph : Reading) (source : SourceReading) (sources : ReadingIf) (targets : Reading) →
    NearRowsHaveOneText graph source sources targets
nears_one graph source sources targets options told known told_sources told_targets text other t u =
    both graph told.0 told.1 source known _ _ t u (λ g h loaded p q.
    let from : q.0 ≡ p.0 = one_sources sources told_sources g.nodes q.0 p.0 q.2.0 p.2.0 in
    let to : q.1 ≡ p.1 = one_sources (OneInput targets) told_targets g.nodes q.1 p.1 q.2.1 p.2.1 in
    one_rows_text options g p.0 p.1 text other p.3 (rw (from, to) at q.3))

-- and one text of the hierarchy
pub saves_one : (graph : Reading) (source : SourceReading) → HierarchiesHaveOneText graph source
saves_one graph source options named told known text other t u = both graph told.0 told.1 source known _ _ t u (λ g h loaded p q.
    let same : q.0 ≡ p.0 =
    one_to_save graph source options.quick named options.order options.hops.number g h loaded q.0 p.0 q.1 p.1 in
    one_hierarchy_text p.0 text other p.2 (subst (λ (H : LevelsAndLegs). IsHierarchyText H other) same q.2))

-- near rows by a saved hierarchy are those of the graph
pub near_of_graph : (graph saved : Reading) (sources : ReadingIf) (targets : Reading) →
    SavedNearRowsAreThoseOfTheGraph graph saved sources targets
near_of_graph graph saved sources targets options text (g, Some H, loaded, near) =
    (g, None, (loaded.1.limits, loaded.1.reads_graph, refl), near)
near_of_graph graph saved sources targets options text (g, None, loaded, near) = absurd loaded
