-- Rows of pairs that are shortened over the pairs of the row.
use Rattle.std.proofs.Common.{◌≡◌, ℕ, ◌+◌, ◌<◌, ◌≤◌, List, length, get_or, set, refl, sym, ◌∙◌, ap, subst, arith}
use Rattle.std.proofs.Common.{inl, inr, length-set, get_or-set_same, get_or-set_other}
use Rattle.std.specs.Prelude.{◌≢◌}
use Rattle.std.proofs.lemmas.Bool.{cases_eq, cases_lt}
use Rattle.std.proofs.lemmas.List.{get_or_default}
use Rattle.ch_graph.specs.Graph.{Network, IsWithinLimits}
use Rattle.ch_hierarchy.specs.declared.side.Side.{Side}
use Rattle.ch_hierarchy.specs.declared.side.Side.TheVariants.{Up, Down}
use Rattle.ch_hierarchy.specs.Side.{other}
use Rattle.ch_custom.specs.declared.leg_pair.LegPair.{LegPair}
use Rattle.ch_custom.specs.declared.leg_pair.TheConstants.{BEATEN}
use Rattle.ch_custom.specs.Customizing.{leg_over}
use Rattle.ch_custom.specs.LegPairs.{turned_pair, pairs_row, AreHeld}
use Rattle.ch_custom.specs.Exact.{IsSoundAt, IsShortened, IsOver, IsPairShortened, held, pair_at, AreAllHeld, AreBothLowered, IsSoundRow}
use Rattle.ch_custom.specs.Exact.{AreShortened, IsShortenedOver, AreShortenedOver}
use Rattle.ch_custom.proofs.theory.ExactLegs.{walk_turned, again, still_sound, over_kept, over_before, lowered, lowered_over}

-- the node of a pair, as a function
abbrev pub node_in : LegPair → ℕ
node_in p = p.node

-- the leg of a pair that is turned
turned_held : (side : Side) (p : LegPair) → held side (turned_pair p) ≡ held (other side) p
turned_held Up p = refl
turned_held Down p = refl

-- it can be added up if the pair can
pub turned_ready : (p : LegPair) → AreHeld p → AreHeld (turned_pair p)
turned_ready p all Up = all Down
turned_ready p all Down = all Up

module _ (n : ℕ) (between : LegPair) (near far : ℕ) (b : LegPair) (old new : List LegPair) (p q : LegPair) (lt : near < length old)
    (below : far < length old) (apart : near ≢ far) (pn : p.node ≡ (pair_at old far b).node) (qn : q.node ≡ (pair_at
    (set old far p) near b).node)
    (ps : IsPairShortened n (pair_at old near b) between (pair_at old far b) p) (turned : LegPair) (is_turned : turned ≡ turned_pair
    between)
    (qs : IsPairShortened n (pair_at old far b) turned (pair_at (set old far p) near b) q)
    (ph : AreHeld p) (qh : AreHeld q) (all : AreAllHeld old) (is : new ≡ set (set old far p) near q) where
  many : length new ≡ length old
  many = ap length is ∙ length-set (set old far p) near q ∙ length-set old far p

  at_near : (d : LegPair) → pair_at new near d ≡ q
  at_near d = ap (λ z. get_or z near d) is ∙ get_or-set_same (set old far p) near q d (omega (arith, length-set old far p))

  at_far : (d : LegPair) → pair_at new far d ≡ p
  at_far d = ap (λ z. get_or z far d) is ∙ get_or-set_other (set old far p) near far q d (λ e. apart (sym e))
      ∙ get_or-set_same old far p d below

  at_rest : (k : ℕ) (d : LegPair) → k ≢ near → k ≢ far → pair_at new k d ≡ pair_at old k d
  at_rest k d away not = ap (λ z. get_or z k d) is ∙ get_or-set_other (set old far p) near k q d away ∙ get_or-set_other old far k p d not

  -- the first pair is not changed by the first step
  still_near : pair_at (set old far p) near b ≡ pair_at old near b
  still_near = get_or-set_other old far near p b apart

  -- the default does not matter
  near_as : (d : LegPair) → pair_at old near b ≡ pair_at old near d
  near_as d = get_or_default old near b d lt

  far_as : (d : LegPair) → pair_at old far b ≡ pair_at old far d
  far_as d = get_or_default old far b d below

  -- both pairs are lowered
  pub both_lowered : AreBothLowered n between near far old new
  both_lowered = record {
    size = many;
    nodes = λ k d inside. elim (cases_eq k near) [
      | inl same ↦
          ap (λ z. (pair_at new z d).node) same ∙ ap node_in (at_near d) ∙ qn ∙ ap node_in (still_near ∙ near_as d)
          ∙ ap (λ z. (pair_at old z d).node) (sym same)
      | inr away ↦ elim (cases_eq k far) [
        | inl same ↦
            ap (λ z. (pair_at new z d).node) same ∙ ap node_in (at_far d) ∙ pn ∙ ap node_in (far_as d)
            ∙ ap (λ z. (pair_at old z d).node) (sym same)
        | inr not ↦ ap node_in (at_rest k d away not)
      ]
    ];
    near = λ side d. ap (held side) (at_near d) ∙ qs side
        ∙ ap (λ z. leg_over n BEATEN (held side (pair_at old far b)) z (held side (pair_at (set old far p) near b)))
        (ap (held side) is_turned ∙ turned_held side between)
        ∙ ap (λ z. leg_over n BEATEN (held side (pair_at old far b)) (held (other side) between) (held side z)) (still_near ∙ near_as d)
        ∙ ap (λ z. leg_over n BEATEN (held side z) (held (other side) between) (held side (pair_at old near d))) (far_as d);
    far = λ side d. ap (held side) (at_far d) ∙ ps side
        ∙ (λ i. leg_over n BEATEN (held side (near_as d i)) (held side between) (held side (far_as d i)));
    kept = at_rest;
    held = λ k d inside. elim (cases_eq k near) [
      | inl same ↦ subst (λ z. AreHeld (pair_at new z d)) (sym same) (subst AreHeld (sym (at_near d)) qh)
      | inr away ↦ elim (cases_eq k far) [
        | inl same ↦ subst (λ z. AreHeld (pair_at new z d)) (sym same) (subst AreHeld (sym (at_far d)) ph)
        | inr not ↦ subst AreHeld (sym (at_rest k d away not)) (all k d (omega (arith, many)))
      ]
    ];
  }

module _ (g : Network) (v : ℕ) where
  -- a row that stays is shortened
  pub short_none : (row : List LegPair) → AreAllHeld row → AreShortened g v row row
  short_none row all = record { size = refl; nodes = λ k d lt. refl; each = λ side k d lt. inl refl; held = all }

  -- a row that is shortened twice is shortened
  pub short_again : (a b c : List LegPair) → AreShortened g v a b → AreShortened g v b c → AreShortened g v a c
  short_again a b c one two = record {
    size = two.size ∙ one.size;
    nodes = λ k d lt. two.nodes k d (omega (arith, one.size)) ∙ one.nodes k d lt;
    each = λ side k d lt. again g side v (pair_at a k d).node (held side (pair_at a k d)) (held side (pair_at b k d))
        (held side (pair_at c k d)) (one.each side k d lt)
        (subst (λ z. IsShortened g side v z (held side (pair_at b k d)) (held side (pair_at c k d))) (one.nodes k d lt)
        (two.each side k d (omega (arith, one.size))));
    held = two.held;
  }

  -- a sound row that is shortened is sound
  pub short_sound : (a b : List LegPair) → IsSoundRow g v a → AreShortened g v a b → IsSoundRow g v b
  short_sound a b sound short = record {
    sorted = λ k j d e lt below.
        let one = short.nodes k d (omega (arith, short.size)) in
        let two = short.nodes j e (omega (arith, short.size)) in
        let less = sound.sorted k j d e lt (omega (arith, short.size)) in
        omega arith;
    held = short.held;
    walks = λ side k d lt.
        let inside : k < length a = omega (arith, short.size) in
        subst (λ z. IsSoundAt g side v z (held side (pair_at b k d))) (sym (short.nodes k d inside))
        (still_sound g side v (pair_at a k d).node (held side (pair_at a k d)) (held side (pair_at b k d)) (short.each side k d inside)
        (sound.walks side k d inside));
    apart = λ k d lt e. let inside : k < length a = omega (arith, short.size) in sound.apart k d inside (sym (short.nodes k d inside) ∙ e);
    within = λ k d lt.
        let inside : k < length a = omega (arith, short.size) in
        subst (λ z. z < g.nodes) (sym (short.nodes k d inside)) (sound.within k d inside);
  }

module _ (g : Network) (limits : IsWithinLimits g) (v : ℕ) (node : v < g.nodes) (place : ℕ) (others cur : List LegPair) (b : LegPair)
    (lt : place < length cur) (sound : IsSoundRow g v cur) (sounds : IsSoundRow g (pair_at cur place b).node others) (next far : ℕ)
    (inside : next < length others) (below : far < length cur) (met : (pair_at cur far b).node ≡ (pair_at others next b).node)
    (apart : place ≢ far) (new : List LegPair) (both : AreBothLowered g.nodes (pair_at others next b) place far cur new) where
  -- the two nodes
  abbrev y : ℕ
  y = (pair_at cur place b).node

  abbrev x : ℕ
  x = (pair_at cur far b).node

  -- the legs between them are walks
  on : (side : Side) → IsSoundAt g side y x (held side (pair_at others next b))
  on side = subst (λ z. IsSoundAt g side y z (held side (pair_at others next b))) (sym met) (sounds.walks side next b inside)

  back : (side : Side) → IsSoundAt g side x y (held (other side) (pair_at others next b))
  back side l is = walk_turned g side x y l.cost (on (other side) l is)

  -- both are shortened
  pub both_short : AreShortened g v cur new
  both_short = record {
    size = both.size;
    nodes = both.nodes;
    each = λ side k d within. elim (cases_eq k place) [
      | inl same ↦
          subst (λ z. IsShortened g side v (pair_at cur z d).node (held side (pair_at cur z d)) (held side (pair_at new z d))) (sym same)
          (subst (λ (z : LegPair). IsShortened g side v z.node (held side z) (held side (pair_at new place d)))
          (get_or_default cur place b d lt)
          (lowered g side v y g.nodes x (held side (pair_at cur far b)) (held (other side) (pair_at others next b))
          (held side (pair_at cur place b)) (held side (pair_at new place d)) (sound.walks side far b below) (back side)
          (both.near side d ∙ (λ i. leg_over g.nodes BEATEN (held side (get_or_default cur far d b below i))
          (held (other side) (pair_at others next b)) (held side (get_or_default cur place d b lt i))))))
      | inr away ↦ elim (cases_eq k far) [
        | inl same ↦
            subst (λ z. IsShortened g side v (pair_at cur z d).node (held side (pair_at cur z d)) (held side (pair_at new z d))) (sym same)
            (subst (λ (z : LegPair). IsShortened g side v z.node (held side z) (held side (pair_at new far d)))
            (get_or_default cur far b d below)
            (lowered g side v x g.nodes y (held side (pair_at cur place b)) (held side (pair_at others next b))
            (held side (pair_at cur far b)) (held side (pair_at new far d)) (sound.walks side place b lt) (on side)
            (both.far side d ∙ (λ i. leg_over g.nodes BEATEN (held side (get_or_default cur place d b lt i))
            (held side (pair_at others next b)) (held side (get_or_default cur far d b below i))))))
        | inr not ↦ inl (ap (held side) (both.kept k d away not))
      ]
    ];
    held = both.held;
  }

  -- each over the other
  pub far_over : (side : Side) → IsOver g side v x (held side (pair_at cur place b)) (held side (pair_at others next b))
      (held side (pair_at new far b))
  far_over side = lowered_over g side v x (held side (pair_at cur place b)) (held side (pair_at others next b)) (held side
      (pair_at cur far b))
      (held side (pair_at new far b)) limits node (sound.within far b below) (sound.walks side far b below) (both.far side b)

  pub near_over : (side : Side) → IsOver g side v y (held side (pair_at cur far b)) (held (other side) (pair_at others next b))
      (held side (pair_at new place b))
  near_over side =
      lowered_over g side v y (held side (pair_at cur far b)) (held (other side) (pair_at others next b)) (held side (pair_at cur place b))
      (held side (pair_at new place b)) limits node (sound.within place b lt) (sound.walks side place b lt) (both.near side b)

module _ (g : Network) (v place : ℕ) (others old : List LegPair) (sound : IsSoundRow g v old) (lt : place < length old)
    (sounds : (d : LegPair) → IsSoundRow g (pair_at old place d).node others) where
  -- before the first of the others
  pub over_none : IsShortenedOver g v place others 0 old old
  over_none = record {
    short = short_none g v old sound.held;
    far = λ side k j d less. absurd (omega arith);
    near = λ side k j d less. absurd (omega arith);
  }

  -- the row is shortened over one more pair
  pub over_more : (next : ℕ) (cur new : List LegPair) → IsShortenedOver g v place others next old cur → AreShortened g v cur new →
      ((side : Side) (j : ℕ) (d : LegPair) → next < length others → j < length old → (pair_at old j d).node ≡ (pair_at others next d).node →
      IsOver g side v (pair_at old j d).node (held side (pair_at old place d)) (held side (pair_at others next d))
      (held side (pair_at new j d))
      × IsOver g side v (pair_at old place d).node (held side (pair_at old j d)) (held (other side) (pair_at others next d))
      (held side (pair_at new place d))) →
      IsShortenedOver g v place others (next + 1) old new
  over_more next cur new a more here = record {
    short = short_again g v old cur new a.short more;
    far = λ side k j d less inside within met. elim (cases_eq k next) [
      | inl same ↦
          subst (λ z. IsOver g side v (pair_at old j d).node (held side (pair_at old place d)) (held side (pair_at others z d))
          (held side (pair_at new j d))) (sym same)
          (here side j d (subst (λ z. z < length others) same inside) within
          (subst (λ z. (pair_at old j d).node ≡ (pair_at others z d).node) same met)).0
      | inr ne ↦
          over_kept g side v (pair_at old j d).node _ _ (held side (pair_at cur j d)) (held side (pair_at new j d))
          (a.far side k j d (omega arith) inside within met) (moved side j d within)
    ];
    near = λ side k j d less inside within met. elim (cases_eq k next) [
      | inl same ↦
          subst (λ z. IsOver g side v (pair_at old place d).node (held side (pair_at old j d)) (held (other side) (pair_at others z d))
          (held side (pair_at new place d))) (sym same)
          (here side j d (subst (λ z. z < length others) same inside) within
          (subst (λ z. (pair_at old j d).node ≡ (pair_at others z d).node) same met)).1
      | inr ne ↦
          over_kept g side v (pair_at old place d).node _ _ (held side (pair_at cur place d)) (held side (pair_at new place d))
          (a.near side k j d (omega arith) inside within met) (moved side place d lt)
    ];
  }
    where
      moved : (side : Side) (j : ℕ) (d : LegPair) → j < length old →
          IsShortened g side v (pair_at old j d).node (held side (pair_at cur j d)) (held side (pair_at new j d))
      moved side j d within =
          subst (λ z. IsShortened g side v z (held side (pair_at cur j d)) (held side (pair_at new j d))) (a.short.nodes j d within)
          (more.each side j d (omega (arith, a.short.size)))

  -- the nodes of the row before `far` are less than those of the others from `next` on
  abbrev pub AreLess : ℕ → ℕ → Type 0
  AreLess next far = (k j : ℕ) (d e : LegPair) → next ≤ k → k < length others → j < far → j < length old →
      (pair_at old j d).node < (pair_at others k e).node

  module _ (limits : IsWithinLimits g) (node : v < g.nodes) (next from far : ℕ) (b : LegPair) (cur new : List LegPair)
      (a : IsShortenedOver g v place others next old cur) (less : AreLess next from) (inside : next < length others) (later : from ≤ far)
      (within : far ≤ length cur)
      (before : (k : ℕ) (d : LegPair) → from ≤ k → k < far → (pair_at cur k d).node < (pair_at others next b).node) where
    -- the nodes of the row before the place that was found are less
    less_here : (j : ℕ) (d : LegPair) → j < far → j < length old → (pair_at old j d).node < (pair_at others next b).node
    less_here j d first below = elim (cases_lt j from) [
      | inl early ↦ less next j d b (omega arith) inside early below
      | inr late ↦ subst (λ z. z < (pair_at others next b).node) (a.short.nodes j d below) (before j d late first)
    ]

    pub less_more : AreLess (next + 1) far
    less_more k j d e past below first under =
        let one = less_here j d first under in
        let two = (sounds b).sorted next k b e (omega arith) below in
        omega arith

    -- no pair of the row has this node
    pub none_met : ((d : LegPair) → far < length cur → (pair_at others next b).node < (pair_at cur far d).node) → new ≡ cur →
        IsShortenedOver g v place others (next + 1) old new
    none_met above same = subst (IsShortenedOver g v place others (next + 1) old) (sym same)
        (over_more next cur cur a (short_none g v cur a.short.held) (λ side j d there below met. absurd (away j d below
        (met ∙ ap node_in (get_or_default others next d b inside)))))
      where
        away : (j : ℕ) (d : LegPair) → j < length old → (pair_at old j d).node ≡ (pair_at others next b).node → ⊥
        away j d below met = elim (cases_lt j far) [
          | inl first ↦ let low = less_here j d first below in omega arith
          | inr past ↦
              let some : far < length cur = omega (arith, a.short.size) in
              let high = above d some in
              elim (cases_eq j far) [
                | inl same ↦
                    let its : (pair_at cur far d).node ≡ (pair_at old j d).node =
                    ap (λ z. (pair_at cur z d).node) (sym same) ∙ a.short.nodes j d below in
                    omega arith
                | inr ne ↦
                    let up = (short_sound g v old cur sound a.short).sorted far j d d (omega arith) (omega (arith, a.short.size)) in
                    let its = a.short.nodes j d below in
                    omega arith
              ]
        ]

    -- this pair of the row has it
    module _ (some : far < length cur) (met : (pair_at cur far b).node ≡ (pair_at others next b).node)
        (both : AreBothLowered g.nodes (pair_at others next b) place far cur new) where
      now : IsSoundRow g v cur
      now = short_sound g v old cur sound a.short

      in_cur : place < length cur
      in_cur = omega (arith, a.short.size)

      same_place : (pair_at cur place b).node ≡ (pair_at old place b).node
      same_place = a.short.nodes place b lt

      its_rows : IsSoundRow g (pair_at cur place b).node others
      its_rows = subst (λ z. IsSoundRow g z others) (sym same_place) (sounds b)

      pub not_itself : place ≢ far
      not_itself e = (sounds b).apart next b inside (sym met ∙ ap (λ z. (pair_at cur z b).node) (sym e) ∙ same_place)

      short : AreShortened g v cur new
      short = both_short g limits v node place others cur b in_cur now its_rows next far inside some met not_itself new both

      far_in : far < length old
      far_in = omega (arith, a.short.size)

      -- the place is the only one
      only : (j : ℕ) (d : LegPair) → j < length old → (pair_at old j d).node ≡ (pair_at others next d).node → j ≡ far
      only j d below is =
          let mine : (pair_at old j d).node ≡ (pair_at others next b).node = is ∙ ap node_in (get_or_default others next d b inside) in
          let its = a.short.nodes j d below in
          elim (cases_lt j far) [
            | inl first ↦ let low = less_here j d first below in absurd (omega arith)
            | inr past ↦ elim (cases_eq j far) [
              | inl same ↦ same
              | inr ne ↦ let up = now.sorted far j b d (omega arith) (omega (arith, a.short.size)) in absurd (omega arith)
            ]
          ]

      here : (side : Side) →
          IsOver g side v (pair_at old far b).node (held side (pair_at old place b)) (held side (pair_at others next b))
          (held side (pair_at new far b))
          × IsOver g side v (pair_at old place b).node (held side (pair_at old far b)) (held (other side) (pair_at others next b))
          (held side (pair_at new place b))
      here side =
          let xs = a.short.nodes far b far_in in
          let on : IsSoundAt g side (pair_at old place b).node (pair_at old far b).node (held side (pair_at others next b)) =
          subst (λ z. IsSoundAt g side (pair_at old place b).node z (held side (pair_at others next b))) (sym met ∙ xs)
          ((sounds b).walks side next b inside) in
          let back : IsSoundAt g side (pair_at old far b).node (pair_at old place b).node (held (other side) (pair_at others next b)) =
          λ l is. walk_turned g side (pair_at old far b).node (pair_at old place b).node l.cost
          (subst (λ z. IsSoundAt g (other side) (pair_at old place b).node z (held (other side) (pair_at others next b))) (sym met ∙ xs)
          ((sounds b).walks (other side) next b inside) l is) in (
            over_before g side v (pair_at old far b).node (pair_at old place b).node (held side (pair_at old place b))
                (held side (pair_at cur place b)) (held side (pair_at others next b)) (held side (pair_at new far b))
                (a.short.each side place b lt) (sound.walks side place b lt) on
                (subst (λ z. IsOver g side v z (held side (pair_at cur place b)) (held side (pair_at others next b))
                (held side (pair_at new far b))) xs
                (far_over g limits v node place others cur b in_cur now its_rows next far inside some met not_itself new both side)),
            over_before g side v (pair_at old place b).node (pair_at old far b).node (held side (pair_at old far b))
                (held side (pair_at cur far b)) (held (other side) (pair_at others next b)) (held side (pair_at new place b))
                (a.short.each side far b far_in) (sound.walks side far b far_in) back
                (subst (λ z. IsOver g side v z (held side (pair_at cur far b)) (held (other side) (pair_at others next b))
                (held side (pair_at new place b))) same_place
                (near_over g limits v node place others cur b in_cur now its_rows next far inside some met not_itself new both side)),
          )

      pub one_met : IsShortenedOver g v place others (next + 1) old new
      one_met = over_more next cur new a short (λ side j d there below is.
          let same = only j d below is in
          let size : length new ≡ length cur = short.size in
          let one : pair_at old far b ≡ pair_at old j d = get_or_default old far b d far_in ∙ ap (λ z. pair_at old z d) (sym same) in
          let two : pair_at old place b ≡ pair_at old place d = get_or_default old place b d lt in
          let three : pair_at others next b ≡ pair_at others next d = get_or_default others next b d inside in
          let four : pair_at new far b ≡ pair_at new j d =
          get_or_default new far b d (omega arith) ∙ ap (λ z. pair_at new z d) (sym same) in
          let five : pair_at new place b ≡ pair_at new place d = get_or_default new place b d (omega (arith, in_cur)) in
          let h = here side in (
            subst (λ z. IsOver g side v (pair_at old j d).node (held side (pair_at old place d)) (held side (pair_at others next d))
                (held side z)) four
                (subst (λ z. IsOver g side v (pair_at old j d).node (held side (pair_at old place d)) (held side z)
                (held side (pair_at new far b))) three
                (subst (λ z. IsOver g side v (pair_at old j d).node (held side z) (held side (pair_at others next b))
                (held side (pair_at new far b))) two
                (subst (λ (z : LegPair). IsOver g side v z.node (held side (pair_at old place b)) (held side (pair_at others next b))
                (held side (pair_at new far b))) one h.0))),
            subst (λ z. IsOver g side v (pair_at old place d).node (held side (pair_at old j d)) (held (other side) (pair_at others next d))
                (held side z)) five
                (subst (λ z. IsOver g side v (pair_at old place d).node (held side (pair_at old j d)) (held (other side) z)
                (held side (pair_at new place b))) three
                (subst (λ z. IsOver g side v (pair_at old place d).node (held side z) (held (other side) (pair_at others next b))
                (held side (pair_at new place b))) one
                (subst (λ (z : LegPair). IsOver g side v z.node (held side (pair_at old far b)) (held (other side) (pair_at others next b))
                (held side (pair_at new place b))) two h.1))),
          ))

module _ (g : Network) (v : ℕ) (metric : List (List LegPair)) (old : List LegPair) (sound : IsSoundRow g v old)
    (others : (k : ℕ) (d : LegPair) → k < length old →
    ((pair_at old k d).node < length metric) × IsSoundRow g (pair_at old k d).node (pairs_row metric (pair_at old k d).node)) where
  -- the row of the node of a pair
  abbrev its : ℕ → LegPair → List LegPair
  its p d = pairs_row metric (pair_at old p d).node

  -- before the first pair
  pub all_none : AreShortenedOver g v metric 0 old old
  all_none = record { short = short_none g v old sound.held; over = λ place k j d less. absurd (omega arith) }

  -- the row is shortened over one more of its pairs
  pub all_more : (place : ℕ) (b : LegPair) (cur new row : List LegPair) → AreShortenedOver g v metric place old cur →
      place < length old → row ≡ pairs_row metric (pair_at cur place b).node →
      IsShortenedOver g v place row (length row) cur new → AreShortenedOver g v metric (place + 1) old new
  all_more place b cur new row a lt is more = record {
    short = short_again g v old cur new a.short more.short;
    over = λ p k j d less below inside under met side. elim (cases_eq p place) [
      | inl same ↦
          subst (λ z. IsOver g side v (pair_at old j d).node (held side (pair_at old z d)) (held side (pair_at (its z d) k d))
          (held side (pair_at new j d))
          × IsOver g side v (pair_at old z d).node (held side (pair_at old j d)) (held (other side) (pair_at (its z d) k d))
          (held side (pair_at new z d))) (sym same)
          (here k j d (subst (λ z. k < length (its z d)) same inside) under
          (subst (λ z. (pair_at old j d).node ≡ (pair_at (its z d) k d).node) same met) side)
      | inr ne ↦ let h = a.over p k j d (omega arith) below inside under met side in (
        over_kept g side v (pair_at old j d).node _ _ (held side (pair_at cur j d)) (held side (pair_at new j d)) h.0
            (moved side j d under),
        over_kept g side v (pair_at old p d).node _ _ (held side (pair_at cur p d)) (held side (pair_at new p d)) h.1
            (moved side p d below),
      )
    ];
  }
    where
      moved : (side : Side) (j : ℕ) (d : LegPair) → j < length old →
          IsShortened g side v (pair_at old j d).node (held side (pair_at cur j d)) (held side (pair_at new j d))
      moved side j d within =
          subst (λ z. IsShortened g side v z (held side (pair_at cur j d)) (held side (pair_at new j d))) (a.short.nodes j d within)
          (more.short.each side j d (omega (arith, a.short.size)))

      here : (k j : ℕ) (d : LegPair) → k < length (its place d) → j < length old →
          (pair_at old j d).node ≡ (pair_at (its place d) k d).node → (side : Side) →
          IsOver g side v (pair_at old j d).node (held side (pair_at old place d)) (held side (pair_at (its place d) k d))
          (held side (pair_at new j d))
          × IsOver g side v (pair_at old place d).node (held side (pair_at old j d)) (held (other side) (pair_at (its place d) k d))
          (held side (pair_at new place d))
      here k j d inside under met side =
          let in_cur : place < length cur = omega (arith, a.short.size) in
          let mine : row ≡ its place d = is ∙ ap (λ z. pairs_row metric (node_in z)) (get_or_default cur place b d in_cur)
          ∙ ap (pairs_row metric) (a.short.nodes place d lt) in
          let m = subst (λ z. IsShortenedOver g v place z (length z) cur new) mine more in
          let y = a.short.nodes place d lt in
          let x = a.short.nodes j d under in
          let sounds = (others place d lt).1 in
          let on : IsSoundAt g side (pair_at old place d).node (pair_at old j d).node (held side (pair_at (its place d) k d)) =
          subst (λ z. IsSoundAt g side (pair_at old place d).node z (held side (pair_at (its place d) k d))) (sym met)
          (sounds.walks side k d inside) in
          let back : IsSoundAt g side (pair_at old j d).node (pair_at old place d).node (held (other side) (pair_at (its place d) k d)) =
          λ l e. walk_turned g side (pair_at old j d).node (pair_at old place d).node l.cost
          (subst (λ z. IsSoundAt g (other side) (pair_at old place d).node z (held (other side) (pair_at (its place d) k d))) (sym met)
          (sounds.walks (other side) k d inside) l e) in (
            over_before g side v (pair_at old j d).node (pair_at old place d).node (held side (pair_at old place d))
                (held side (pair_at cur place d)) (held side (pair_at (its place d) k d)) (held side (pair_at new j d))
                (a.short.each side place d lt) (sound.walks side place d lt) on
                (subst (λ z. IsOver g side v z (held side (pair_at cur place d)) (held side (pair_at (its place d) k d))
                (held side (pair_at new j d))) x
                (m.far side k j d inside inside (omega (arith, a.short.size)) (x ∙ met))),
            over_before g side v (pair_at old place d).node (pair_at old j d).node (held side (pair_at old j d))
                (held side (pair_at cur j d)) (held (other side) (pair_at (its place d) k d)) (held side (pair_at new place d))
                (a.short.each side j d under) (sound.walks side j d under) back
                (subst (λ z. IsOver g side v z (held side (pair_at cur j d)) (held (other side) (pair_at (its place d) k d))
                (held side (pair_at new place d))) y
                (m.near side k j d inside inside (omega (arith, a.short.size)) (x ∙ met))),
          )
