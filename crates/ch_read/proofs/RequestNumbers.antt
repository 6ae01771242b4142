-- The numbers of a request, and its limit.
use Rattle.std.proofs.Common.{◌≡◌, ℕ, ◌+◌, ◌-◌, ◌≤◌, true, leb, List, [], length, get_or, Some, None, refl}
use Rattle.std.proofs.Common.{sym, ◌∙◌, ap, arith}
use Rattle.std.specs.Prelude.{option_map}
use Rattle.std.proofs.lemmas.Bool.Decides.{nat_tests}
use Rattle.std.proofs.lemmas.Option.{slice_get_past, slice_get-get_or}
use Rattle.ch_graph.specs.declared.limits.TheConstants.{MOST_LISTED}
use Rattle.ch_read.specs.declared.begun.Purpose.TheVariants.{Places as ForPlaces}
use Rattle.ch_read.specs.Forms.{numbers_after}
use Rattle.ch_read.specs.Reading.{AreCapped, capped_number}
use Rattle.ch_read.specs.Requests.{Begun, count_or_all, failing_at, is_whole, numbers_and_limit, places_checks, places_from}
use Rattle.ch_read.specs.RequestSteps.{IsLimited, PassesAs}
use Rattle.ch_read.proofs.Judging.{capped_at, length-numbers_after}

-- the numbers were read without a limit after them
pub without_limit : (count : ℕ) (ws : List (List ℕ)) (values : List ℕ) → AreCapped (numbers_after [] count ws) values →
    IsLimited count (numbers_and_limit [] count ws) (record { first = get_or values 0 0; second = get_or values 1 0; within = None })
without_limit count ws values read =
    let ns = read.0 in
    let long : length ns ≡ count = length-numbers_after [] ws count ns read.1 in (
      ns,
      rw (read.1) refl,
      ap (λ (v : List ℕ). get_or v 0 0) read.2 ∙ capped_at ns (5 - length ns) 0,
      ap (λ (v : List ℕ). get_or v 1 0) read.2 ∙ capped_at ns (5 - length ns) 1,
      sym (ap (option_map capped_number) (slice_get_past ns count (omega arith))),
    )

-- the numbers were read with a limit after them
pub with_limit : (count : ℕ) (ws : List (List ℕ)) (values : List ℕ) → numbers_after [] count ws ≡ None →
    AreCapped (numbers_after [] (count + 1) ws) values →
    IsLimited count (numbers_and_limit [] count ws)
    (record { first = get_or values 0 0; second = get_or values 1 0; within = Some (get_or values count 0) })
with_limit count ws values none read =
    let ns = read.0 in
    let long : length ns ≡ count + 1 = length-numbers_after [] ws (count + 1) ns read.1 in (
      ns,
      rw (none, read.1) refl,
      ap (λ (v : List ℕ). get_or v 0 0) read.2 ∙ capped_at ns (5 - length ns) 0,
      ap (λ (v : List ℕ). get_or v 1 0) read.2 ∙ capped_at ns (5 - length ns) 1,
      ap Some (ap (λ (v : List ℕ). get_or v count 0) read.2 ∙ capped_at ns (5 - length ns) count)
          ∙ ap (option_map capped_number) (sym (slice_get-get_or ns count 0 (omega arith))),
    )

-- a line of places begins the request that its numbers name
pub places_read : (line : ℕ) (begun : Begun) (ws : List (List ℕ)) (values : List ℕ) → is_whole begun ≡ true →
    AreCapped (numbers_after [] 2 ws) values →
    get_or values 0 0 ≤ MOST_LISTED → get_or values 1 0 ≤ MOST_LISTED →
    PassesAs (failing_at line (places_checks begun (numbers_after [] 2 ws))) (numbers_after [] 2 ws) places_from
    (record {
      purpose = ForPlaces (count_or_all (get_or values 1 0));
      sources = 0;
      targets = get_or values 0 0;
      listed = [];
      weights = 0;
      weighed = [];
    })
places_read line begun ws values whole read few told =
    let ns = read.0 in
    let first : get_or values 0 0 ≡ capped_number (get_or ns 0 0) =
    ap (λ (v : List ℕ). get_or v 0 0) read.2 ∙ capped_at ns (5 - length ns) 0 in
    let second : get_or values 1 0 ≡ capped_number (get_or ns 1 0) =
    ap (λ (v : List ℕ). get_or v 1 0) read.2 ∙ capped_at ns (5 - length ns) 1 in
    let first_is : get_or values 0 0 ≡ get_or ns 0 0 = omega arith in
    let second_is : get_or values 1 0 ≡ get_or ns 1 0 = omega arith in
    let first_few : leb (get_or ns 0 0) MOST_LISTED ≡ true = grind (arith, nat_tests) in
    let second_few : leb (get_or ns 1 0) MOST_LISTED ≡ true = grind (arith, nat_tests) in
    (rw (whole, read.1, first_few, second_few) refl, ns, read.1, rw (first_is, second_is) refl)
