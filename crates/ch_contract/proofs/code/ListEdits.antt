-- Changes to one of many lists.
use Rattle.std.proofs.Common.{◌≡◌, ℕ, ◌+◌, ◌<◌, Bool, true, false, List, [], ◌∷◌, ◌++◌, length, set, get_or, take, drop, Option}
use Rattle.std.proofs.Common.{Some, None, Contains, inl, inr, refl, sym, ◌∙◌, ap, subst, arith}
use Rattle.std.specs.Prelude.{◌⊎◌, ◌≢◌, ◌==◌, ◌&&◌, if◌then◌else◌, AllPairs}
use Rattle.std.proofs.lemmas.Bool.{cases_eq, eqb-true, eqb-false}
use Rattle.std.proofs.lemmas.Bool.Decides.{nat_tests}
use Rattle.std.proofs.lemmas.List.Elements.{Contains-push_cases}
use Rattle.ch_contract.specs.Legs.{Label, Legs}
use Rattle.ch_contract.specs.Contraction.{IsPairBefore, shortcut_label}
use Rattle.ch_contract.specs.declared.leg_lists.End.{End}
use Rattle.ch_contract.specs.declared.shortcut.Shortcut.{Shortcut}
use Rattle.ch_contract.proofs.code.Puts.{next_shortcut}
use Rattle.ch_contract.specs.LegLists.{AreRows, IsAmong, HaveAll, IsEdited, IsSet, AreTaken, AreOverridden, end_of, legs_at}
use Rattle.ch_contract.specs.LegLists.{legs_from, legs_into, other_of}
use Rattle.std.proofs.Math.Seq.{take-set-lt}
use Rattle.std.proofs.lemmas.List.{get_or-set_other, get_or-take, drop-set-lt, length-set, length-take}
use Rattle.ch_hierarchy.specs.declared.leg.Leg.{Leg}
use Rattle.ch_hierarchy.specs.Rows.{row, IsRow}
use Rattle.ch_contract.specs.LegRows.{row_leg}

-- the legs after the list of one node changes at one other node
pub set_row : (node other : ℕ) (label : Option Label) (old new : List (List Leg)) → node < length old → AreRows old →
    new ≡ set old node (row new node) → IsRow (row new node) →
    ((y : ℕ) → row_leg (row new node) y ≡ (if other == y then label else row_leg (row old node) y)) → IsSet node other label old new
set_row node other label old new inside rows is row_is legs = record {
  size = ap length is ∙ length-set old node (row new node);
  rows = λ x. rows_at x (cases_eq x node);
  legs = λ x y. legs_at x y (node == x) refl;
}
  where
    elsewhere : (x : ℕ) → x ≢ node → row new x ≡ row old x
    elsewhere x ne = ap (λ z. row z x) is ∙ get_or-set_other old node x (row new node) [] ne

    rows_at : (x : ℕ) → (x ≡ node) ⊎ (x ≢ node) → IsRow (row new x)
    rows_at x (inl e) = subst (λ z. IsRow (row new z)) (sym e) row_is
    rows_at x (inr ne) = subst IsRow (sym (elsewhere x ne)) (rows x)

    legs_at : (x y : ℕ) (b : Bool) → (node == x) ≡ b → row_leg (row new x) y ≡ (if b && other == y then label else row_leg (row old x) y)
    legs_at x y true e = let same = eqb-true node x e in
        subst (λ z. row_leg (row new z) y ≡ (if other == y then label else row_leg (row old z) y)) same (legs y)
    legs_at x y false e = let ne = eqb-false node x e in ap (λ z. row_leg z y) (elsewhere x (λ same. ne (sym same)))

-- the first n of these lists are the lists of the nodes, and `node` is one of the nodes
module _ (n node : ℕ) (all rows : List (List Leg)) (are : take n all ≡ rows) (inside : node < length rows) where
  below : node < n
  below = omega (arith, ap length are, length-take n all, inside)

  -- the node has a list
  pub list_within : node < length all
  list_within = omega (arith, ap length are, length-take n all, inside)

  -- the list of the node is its row
  pub list_row : row all node ≡ row rows node
  list_row = sym (get_or-take n all node [] below) ∙ ap (λ l. row l node) are

  module _ (new : List (List Leg)) (edited : IsEdited node all new) where
    here : row (take n new) node ≡ row new node
    here = get_or-take n new node [] below

    -- if the list of the node changes, the lists after those of the nodes stay
    pub edited_aside : drop n new ≡ drop n all
    edited_aside = ap (drop n) edited ∙ drop-set-lt n all node (row new node) below

    -- if the list of the node changes at one other node, the leg there is set
    pub edited_set : (other : ℕ) (label : Option Label) → AreRows rows → IsRow (row new node) →
        ((y : ℕ) → row_leg (row new node) y ≡ (if other == y then label else row_leg (row all node) y)) →
        IsSet node other label rows (take n new)
    edited_set other label ordered is legs =
        set_row node other label rows (take n new) inside ordered
        (ap (take n) edited ∙ take-set-lt n all node (row new node) below ∙ ap (λ l. set l node (row new node)) are
        ∙ ap (set rows node) (sym here))
        (subst IsRow (sym here) is)
        (λ y. ap (λ l. row_leg l y) here ∙ legs y ∙ ap (λ l. if other == y then label else row_leg l y) list_row)

-- the leg that is set is the new one
pub set_here : (node other : ℕ) (label : Option Label) (old new : List (List Leg)) → IsSet node other label old new →
    row_leg (row new node) other ≡ label
set_here node other label old new s =
    let first : (node == node) ≡ true = grind (arith, nat_tests) in
    let second : (other == other) ≡ true = grind (arith, nat_tests) in
    s.legs node other ∙ rw (first, second) refl

-- each other leg is the one before
pub set_off : (node other : ℕ) (label : Option Label) (old new : List (List Leg)) → IsSet node other label old new →
    (x y : ℕ) → (node ≡ x → other ≡ y → ⊥) → row_leg (row new x) y ≡ row_leg (row old x) y
set_off node other label old new s x y off = s.legs x y ∙ at (node == x) (other == y) refl refl
  where
    at : (p q : Bool) → (node == x) ≡ p → (other == y) ≡ q → (if p && q then label else row_leg (row old x) y) ≡ row_leg (row old x) y
    at true true e f = absurd (off (eqb-true node x e) (eqb-true other y f))
    at true false e f = refl
    at false q e f = refl

not_among : (x : ℕ) → IsAmong [] x → ⊥
not_among x m = let at = m.1.1 in omega arith

-- at first no leg is taken out
pub taken_none : (v : ℕ) (lists : List (List Leg)) → AreRows lists → AreTaken v [] lists lists
taken_none v lists rows =
    record { size = refl; rows = rows; kept = λ x y ne. refl; here = λ x m. absurd (not_among x m); there = λ x. inl refl }

-- the lists after one more leg is taken out
pub taken_more : (v : ℕ) (others : List Leg) (l : Leg) (old mid new : List (List Leg)) → AreTaken v others old mid →
    IsSet l.node v None mid new → AreTaken v (others ++ l ∷ []) old new
taken_more v others l old mid new t s = record {
  size = s.size ∙ t.size;
  rows = s.rows;
  kept = λ x y ne. set_off l.node v None mid new s x y (λ _ same. ne (sym same)) ∙ t.kept x y ne;
  here = λ x m. here x (cases_eq x l.node) (Contains-push_cases others l m.0 m.1) m.2;
  there = λ x. there x (cases_eq x l.node) (t.there x);
}
  where
    gone : (x : ℕ) → x ≡ l.node → row_leg (row new x) v ≡ None
    gone x e = subst (λ z. row_leg (row new z) v ≡ None) (sym e) (set_here l.node v None mid new s)

    stays : (x : ℕ) → x ≢ l.node → row_leg (row new x) v ≡ row_leg (row mid x) v
    stays x ne = set_off l.node v None mid new s x v (λ same _. ne (sym same))

    here : (x : ℕ) → (x ≡ l.node) ⊎ (x ≢ l.node) → {k : Leg} → Contains others k ⊎ (l ≡ k) → k.node ≡ x → row_leg (row new x) v ≡ None
    here x (inl e) _ _ = gone x e
    here x (inr ne) {k} (inl c) f = stays x ne ∙ t.here x (k, c, f)
    here x (inr ne) {k} (inr e) f = absurd (ne (sym f ∙ ap (λ (z : Leg). z.node) (sym e)))

    there : (x : ℕ) → (x ≡ l.node) ⊎ (x ≢ l.node) → (row_leg (row mid x) v ≡ row_leg (row old x) v) ⊎ (row_leg (row mid x) v ≡ None) →
        (row_leg (row new x) v ≡ row_leg (row old x) v) ⊎ (row_leg (row new x) v ≡ None)
    there x (inl e) _ = inr (gone x e)
    there x (inr ne) (inl same) = inl (stays x ne ∙ same)
    there x (inr ne) (inr none) = inr (stays x ne ∙ none)

-- after the legs at v are taken out of the lists of all nodes that have one, no list has a leg at v
pub taken_all : (v : ℕ) (others : List Leg) (old new : List (List Leg)) → AreTaken v others old new → HaveAll old v others →
    (x y : ℕ) → row_leg (row new x) y ≡ (if v == y then None else row_leg (row old x) y)
taken_all v others old new t all x y = at (v == y) refl
  where
    none : (o : Option Label) → row_leg (row old x) v ≡ o →
        (row_leg (row new x) v ≡ row_leg (row old x) v) ⊎ (row_leg (row new x) v ≡ None) → row_leg (row new x) v ≡ None
    none o e (inr gone) = gone
    none None e (inl same) = same ∙ e
    none (Some m) e (inl same) = t.here x (all x m e)

    at : (b : Bool) → (v == y) ≡ b → row_leg (row new x) y ≡ (if b then None else row_leg (row old x) y)
    at true e = let same : v ≡ y = grind (arith, nat_tests) in
        subst (λ z. row_leg (row new x) z ≡ None) same (none (row_leg (row old x) v) refl (t.there x))
    at false e = t.kept x y (let differs : y ≢ v = grind (arith, nat_tests) in differs)

-- at first no shortcut is put in
pub overridden_none : (read : List (List Leg) → Legs) (v : ℕ) (lists : List (List Leg)) → AreRows lists →
    AreOverridden read v [] lists lists
overridden_none read v lists rows = record { size = refl; rows = rows; legs = λ u w. refl }

-- the legs after the next shortcut is put in
overridden_more : (read : List (List Leg) → Legs) (v : ℕ) (xs : List Shortcut) (i : ℕ) (d : Shortcut)
    (old mid new : List (List Leg)) → i < length xs →
    AllPairs IsPairBefore xs → AreOverridden read v (take i xs) old mid → length new ≡ length mid → AreRows new →
    ((u w : ℕ) → read new u w ≡ (if (get_or xs i d).from == u && (get_or xs i d).to == w
    then Some (shortcut_label v (get_or xs i d)) else read mid u w)) →
    AreOverridden read v (take (i + 1) xs) old new
overridden_more read v xs i d old mid new lt ordered so_far size rows legs = record {
  size = size ∙ so_far.size;
  rows = rows;
  legs = λ u w. legs u w ∙ next_shortcut v xs i d u w (read mid u w) (read old u w) lt ordered (so_far.legs u w);
}

-- the order of two tests does not matter
pub turn : {A : Type 0} (p q : Bool) (a b : A) → (if p && q then a else b) ≡ (if q && p then a else b)
turn true true a b = refl
turn true false a b = refl
turn false true a b = refl
turn false false a b = refl

-- the next shortcut is put into the list of its first node
overridden_from : (v : ℕ) (xs : List Shortcut) (i : ℕ) (d : Shortcut) (old mid new : List (List Leg)) → i < length xs →
    AllPairs IsPairBefore xs → AreOverridden legs_from v (take i xs) old mid →
    IsSet (get_or xs i d).from (get_or xs i d).to (Some (shortcut_label v (get_or xs i d))) mid new →
    AreOverridden legs_from v (take (i + 1) xs) old new
overridden_from v xs i d old mid new lt ordered so_far s =
    overridden_more legs_from v xs i d old mid new lt ordered so_far s.size s.rows s.legs

-- the next shortcut is put into the list of its second node
overridden_into : (v : ℕ) (xs : List Shortcut) (i : ℕ) (d : Shortcut) (old mid new : List (List Leg)) → i < length xs →
    AllPairs IsPairBefore xs → AreOverridden legs_into v (take i xs) old mid →
    IsSet (get_or xs i d).to (get_or xs i d).from (Some (shortcut_label v (get_or xs i d))) mid new →
    AreOverridden legs_into v (take (i + 1) xs) old new
overridden_into v xs i d old mid new lt ordered so_far s =
    overridden_more legs_into v xs i d old mid new lt ordered so_far s.size s.rows
    (λ u w. s.legs w u ∙ turn ((get_or xs i d).to == w) ((get_or xs i d).from == u) (Some (shortcut_label v (get_or xs i d)))
    (legs_into mid u w))

-- the next shortcut is put into the list of its node at this end
pub overridden_at : (end : End) (v : ℕ) (xs : List Shortcut) (i : ℕ) (d : Shortcut) (old mid new : List (List Leg)) → i < length xs →
    AllPairs IsPairBefore xs → AreOverridden (legs_at end) v (take i xs) old mid →
    IsSet (end_of end (get_or xs i d)) (other_of end (get_or xs i d)) (Some (shortcut_label v (get_or xs i d))) mid new →
    AreOverridden (legs_at end) v (take (i + 1) xs) old new
overridden_at End.First = overridden_from
overridden_at End.Second = overridden_into

-- the default shortcut of a read past the end of a list of shortcuts
abbrev pub no_shortcut : Shortcut
no_shortcut = record { from = 0; to = 0; cost = record { weight = 0; arcs = 0 } }
