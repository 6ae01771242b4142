-- Labels, and the costs and parents that they stand for.
use Rattle.std.proofs.Common.{◌≡◌, ℕ, zero, suc, ◌+◌, ◌-◌, ◌*◌, ◌/◌, ◌%◌, ◌<◌, ◌≤◌, List, [], ◌∷◌, length, map, get_or, set}
use Rattle.std.proofs.Common.{replicate, Option, Some, None, refl, sym, ◌∙◌, ap, arith}
use Rattle.std.specs.Prelude.{if◌then◌else◌}
use Rattle.std.specs.List.{zip}
use Rattle.std.proofs.lemmas.Bool.{lt-ltb, le-ltb}
use Rattle.std.proofs.lemmas.List.{length-map, get_or-map, map-set, set-get_or}
use Rattle.std.proofs.lemmas.Slice.Zip.{firsts-zip, get_or-zip}
use Rattle.ch_graph.specs.declared.limits.TheConstants.{MOST_WEIGHT}
use Rattle.ch_graph.specs.declared.cost.Cost.{Cost}
use Rattle.ch_graph.specs.Cost.{cost_at}
use Rattle.ch_graph.proofs.Numbers.{not_eqb}
use Rattle.ch_query.specs.declared.sides.labels.Label.{Label}
use Rattle.ch_query.specs.declared.sides.labels.TheConstants.{NO_WEIGHT, MANY}
use Rattle.ch_query.specs.Labels.{arcs_of, cost_of}

-- a number of arcs below MANY stands for itself
pub few_arcs : (a m : ℕ) → a < MANY → arcs_of a m ≡ a
few_arcs a m lt = ap (λ q. if q then a else a + m * MANY) (lt-ltb a MANY lt)

-- a number of arcs of at least MANY stands for its sum with the multiple
pub many_arcs : (a m : ℕ) → MANY ≤ a → arcs_of a m ≡ a + m * MANY
many_arcs a m le = ap (λ q. if q then a else a + m * MANY) (le-ltb a MANY le)

-- the program's split of many arcs stands for their number
pub many_split : (a : ℕ) → MANY ≤ a → arcs_of (MANY + a % MANY) (a / MANY - 1) ≡ a
many_split a le = many_arcs (MANY + a % MANY) (a / MANY - 1) (omega arith) ∙ omega arith

-- a label whose weight is not NO_WEIGHT stands for a cost
pub reached_label : (l : Label) (m a : ℕ) → (l.weight ≡ NO_WEIGHT → ⊥) → arcs_of l.arcs m ≡ a →
    cost_of (l, m) ≡ Some (record { weight = l.weight; arcs = a })
reached_label l m a ne e =
    ap (λ q. if q then None else Some (record { weight = l.weight; arcs = arcs_of l.arcs m })) (not_eqb l.weight NO_WEIGHT ne)
    ∙ ap (λ (k : ℕ). Some (record { weight = l.weight; arcs = k })) e

-- a label whose weight is within the limits stands for a cost
pub light_label : (l : Label) (m a : ℕ) → l.weight ≤ MOST_WEIGHT → arcs_of l.arcs m ≡ a →
    cost_of (l, m) ≡ Some (record { weight = l.weight; arcs = a })
light_label l m a light e = reached_label l m a (λ same. omega arith) e

-- a label whose weight is NO_WEIGHT stands for no cost
pub no_label : (l : Label) (m : ℕ) → l.weight ≡ NO_WEIGHT → cost_of (l, m) ≡ None
no_label l m same = ap (λ (w : ℕ). cost_of (record { weight = w; arcs = l.arcs; parent = l.parent }, m)) same

-- equal labels without costs stand for a list without costs
pub none_reached : (l : Label) (n : ℕ) → cost_of (l, 0) ≡ None → map cost_of (zip (replicate n l) (replicate n 0)) ≡ replicate n None
none_reached l zero e = refl
none_reached l (suc n) e = λ i. e i ∷ none_reached l n e i

-- the parents of the labels
abbrev pub parents_of : List Label → List ℕ
parents_of labels = map (λ (k : Label). k.parent) labels

-- the parents of equal labels are equal
pub same_parents : (l : Label) (n : ℕ) → parents_of (replicate n l) ≡ replicate n l.parent
same_parents l zero = refl
same_parents l (suc n) = λ i. l.parent ∷ same_parents l n i

-- a write to both lists at one place is a write to the list of pairs
zip_set : {A B : Type 0} → (xs : List A) (ys : List B) (i : ℕ) (a : A) (b : B) → zip (set xs i a) (set ys i b) ≡ set (zip xs ys) i (a, b)
zip_set [] ys i a b = refl
zip_set (x ∷ xs) [] zero a b = refl
zip_set (x ∷ xs) [] (suc i) a b = refl
zip_set (x ∷ xs) (y ∷ ys) zero a b = refl
zip_set (x ∷ xs) (y ∷ ys) (suc i) a b = λ k. (x, y) ∷ zip_set xs ys i a b k

-- there are as many labels as parents
pub as_many_parents : (labels : List Label) (parents : List ℕ) → parents_of labels ≡ parents → length labels ≡ length parents
as_many_parents labels parents is = sym (length-map labels (λ (k : Label). k.parent)) ∙ ap length is

-- writing a label writes its parent
pub parents_set : (labels labels' : List Label) (parents : List ℕ) (v : ℕ) (l : Label) → labels' ≡ labels → parents_of labels ≡ parents →
    parents_of (set labels' v l) ≡ set parents v l.parent
parents_set labels labels' parents v l same is =
    map-set (λ (k : Label). k.parent) labels' v l ∙ ap (λ q. set q v l.parent) (ap parents_of same ∙ is)

module _ (labels : List Label) (multiples : List ℕ) (costs : List (Option Cost)) (size : length multiples ≡ length labels)
    (is : map cost_of (zip labels multiples) ≡ costs) where
  -- there are as many labels as costs
  pub as_many : length labels ≡ length costs
  as_many =
      sym (ap length (firsts-zip labels multiples size)) ∙ length-map (zip labels multiples) (λ (p : Label × ℕ). p.0)
      ∙ sym (length-map (zip labels multiples) cost_of) ∙ ap length is

  -- a label that the program reads stands for the node's cost
  pub label_read : (v : ℕ) (l : Label) → v < length costs → l ≡ get_or labels v l → cost_of (l, get_or multiples v 0) ≡ cost_at costs v
  label_read v l within e =
      let lt : v < length labels = (let n = as_many in omega arith) in
      ap (λ q. cost_of (q, get_or multiples v 0)) e
      ∙ ap cost_of (sym (get_or-zip labels multiples v (l, 0) lt (omega (arith, lt, size))))
      ∙ sym (get_or-map cost_of (zip labels multiples) v (l, 0) None
      (let n = as_many in let m = length-map (zip labels multiples) cost_of in let k = ap length is in omega arith))
      ∙ ap (λ xs. cost_at xs v) is

  -- writing a label and its multiple writes the node's cost
  pub label_set : (v : ℕ) (l : Label) (m : ℕ) (o : Option Cost) (multiples' : List ℕ) → multiples' ≡ set multiples v m →
      cost_of (l, m) ≡ o →
      map cost_of (zip (set labels v l) multiples') ≡ set costs v o
  label_set v l m o multiples' changed e =
      ap (λ q. map cost_of (zip (set labels v l) q)) changed
      ∙ ap (map cost_of) (zip_set labels multiples v l m)
      ∙ map-set cost_of (zip labels multiples) v (l, m)
      ∙ (λ i. set (is i) v (e i))

  -- writing a label alone writes the node's cost, if it fits the multiple that stays
  pub label_set_alone : (v : ℕ) (l : Label) (o : Option Cost) → cost_of (l, get_or multiples v 0) ≡ o →
      map cost_of (zip (set labels v l) multiples) ≡ set costs v o
  label_set_alone v l o e = label_set v l (get_or multiples v 0) o multiples (sym (set-get_or multiples v 0)) e

  -- writing a label that differs only in its parent keeps the costs
  pub costs_stay : (v : ℕ) (l : Label) (p : ℕ) → v < length costs → l ≡ get_or labels v l →
      map cost_of (zip (set labels v (record { weight = l.weight; arcs = l.arcs; parent = p })) multiples) ≡ costs
  costs_stay v l p within e =
      label_set_alone v (record { weight = l.weight; arcs = l.arcs; parent = p }) (cost_at costs v) (label_read v l within e)
      ∙ set-get_or costs v None

  -- the label and the multiple that the program writes stand for the cost
  pub written : (v weight arcs parent : ℕ) → weight ≤ MOST_WEIGHT → (labels' : List Label) (multiples' : List ℕ) (m a b : ℕ) →
      labels' ≡ labels →
      multiples' ≡ set multiples v m → a ≡ b → arcs_of b m ≡ arcs →
      map cost_of (zip (set labels' v (record { weight = weight; arcs = a; parent = parent })) multiples')
      ≡ set costs v (Some (record { weight = weight; arcs = arcs }))
  written v weight arcs parent light labels' multiples' m a b same changed is_b split =
      ap (λ q. map cost_of (zip (set q v (record { weight = weight; arcs = a; parent = parent })) multiples')) same
      ∙ label_set v (record { weight = weight; arcs = a; parent = parent }) m _ multiples' changed
      (light_label (record { weight = weight; arcs = a; parent = parent }) m arcs light (ap (λ q. arcs_of q m) is_b ∙ split))
