-- The gathered lists, with items in place of ranks, are the buckets that hold the lists.
use Rattle.std.proofs.Common.{◌≡◌, ℕ, ◌<◌, ◌≤◌, List, ◌++◌, length, map, take, drop, Vec, get_or, arith, ap, sym, ◌∙◌, subst}
use Rattle.std.specs.Prelude.{All}
use Rattle.std.specs.declared.alloc.Global.{Global}
use Rattle.std.proofs.lemmas.List.Elements.{All-map}
use Rattle.ch_rows.specs.Buckets.{HoldLists}
use Rattle.ch_rows.specs.Dealing.{Deal, dealt, item_of}
use Rattle.ch_rows.proofs.Deals.{item_below}
use Rattle.ch_rows.proofs.Held.{all_dealt, held_dealt, written}
use Rattle.ch_rows.proofs.buckets.Buckets.of_lists.Goals as goal

abbrev items : Vec (ℕ × ℕ) Global → List (ℕ × ℕ)
items list = list.items

-- the entries of each of the lists are below n
abbrev AreBelow : ℕ → List (Vec (ℕ × ℕ) Global) → Type 0
AreBelow n lists = All (λ (list : Vec (ℕ × ℕ) Global). All (λ (entry : ℕ × ℕ). entry.0 < n) list.items) lists

-- the lists that the loop left: items in place of ranks, below the number of nodes; the vector of n lists holds them
record AreDealt (d : Deal) (n : ℕ) (old new : List (Vec (ℕ × ℕ) Global)) : Type 0 where
  size : length new ≡ length old
  each : (k : ℕ) (e : Vec (ℕ × ℕ) Global) → k < length old → (get_or new k e).items ≡ map (dealt (item_of d)) (get_or old k e).items
  below : AreBelow d.nodes new
  held_is : take n (new ++ drop (length new) old) ≡ new

-- after the loop over all lists that were read, they are dealt
are_dealt : {old read new : List (Vec (ℕ × ℕ) Global)} {n turns : ℕ} (d : Deal) → 0 < d.piece → AreBelow d.nodes old →
    n ≡ length old → read ≡ old → length new ≡ length read → length read ≤ turns →
    ((k : ℕ) (e : Vec (ℕ × ℕ) Global) → k < turns → (get_or new k e).items ≡ map (dealt (item_of d)) (get_or old k e).items) →
    AreDealt d n old new
are_dealt {old} {read} {new} {n} d positive below long read_is kept all each =
    let same = ap (λ (l : List (Vec (ℕ × ℕ) Global)). length l) read_is in
    let size : length new ≡ length old = kept ∙ same in
    record {
      size = size;
      each = λ k e lt. each k e (omega (arith, same, all));
      below = λ k e lt. subst (All (λ (entry : ℕ × ℕ). entry.0 < d.nodes)) (sym (each k e (omega (arith, same, size, all))))
          (All-map (λ (entry : ℕ × ℕ). entry.0 < d.nodes) (dealt (item_of d)) (get_or old k e).items
          (λ k' e' lt'. item_below d positive (get_or (get_or old k e).items k' e').0 (below k e (omega (arith, size)) k' e' lt')));
      held_is = written n new old long size;
    }

pub gathered-requires-clause-ranks : goal.gathered-requires-clause-ranks
gathered-requires-clause-ranks c =
    let made = are_dealt c.args.dealing.now c.nodes.ensures.piece c.requires.ranks c.args.lists.ok.0 c.deref_mut-list-items.ensures.value
    c.loop-list.auto.list-items c.loop-list-test.false c.loop-list.invariant.before in
    subst (AreBelow c.nodes.result) (sym made.held_is)
    (subst (λ n. AreBelow n c.loop-list.list-items) (sym c.nodes.ensures.nodes) made.below)

pub returns : goal.returns
returns c =
    let d = c.args.dealing.now in
    let old = c.args.lists.items in
    let new = c.loop-list.list-items in
    let buckets = c.in_ok-rows.rows in
    let made = are_dealt d c.nodes.ensures.piece c.requires.ranks c.args.lists.ok.0 c.deref_mut-list-items.ensures.value
    c.loop-list.auto.list-items c.loop-list-test.false c.loop-list.invariant.before in
    let held = subst (λ n. HoldLists n (λ rank. rank) (map items new) buckets) c.nodes.ensures.nodes
    (subst (λ l. HoldLists c.nodes.result (λ rank. rank) (map items l) buckets) made.held_is c.in_ok-rows.ensures.held) in
    held_dealt d.nodes (item_of d) (map items old) buckets
    (subst (λ lists. HoldLists d.nodes (λ rank. rank) lists buckets) (all_dealt (item_of d) old new made.size made.each) held)
