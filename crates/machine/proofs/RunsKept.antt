-- The promises of runs, from what is proved of the machine: a run on an image is refused, or is the machine's run on the image's system. Assumes nothing.
use Prim.Native.Nat.{ℕ, zero, suc, ◌-◌, ◌^◌, ◌≤◌, ◌<◌}
use mathlib.Core.Path.{◌≡◌, refl, sym, ap, subst, ◌∙◌}
use mathlib.Core.Bool.{Bool, true, false}
use mathlib.Core.List.{List, [], ◌∷◌, map}
use mathlib.Core.Logic.{◌↔◌, ◌⊎◌, inl, inr}
use native.Mathlib.Omega.{arith}
use lib.Dec.{T}
use lib.ListN.{length}
use Rattle.lists.specs.Tests.{◌or◌, neg}
use Rattle.lists.specs.Lists.{here, there, Each}
use Rattle.lists.proofs.Tests.{holds, fails, tests, facts}
use Rattle.lists.proofs.Lists.{in_none, each_more}
use Rattle.automata.specs.Image.{Valid, check, check_image, states_of}
use Rattle.automata.specs.Automaton.{automaton_of}
use Rattle.automata.specs.Acceptance.{Accepted}
use Rattle.automata.proofs.Checks.{check_number}
use Rattle.automata.proofs.Chained.{checks, passed, test_failed, later_none}
use Rattle.machine.specs.Machine.{Pending, Configuration, Given, Rooms, beginning, blocks, step, passes, Next, ends, chain, begin, calls_of, machine}
use Rattle.machine.specs.Lent.{Lent, EvenRooms}
use Rattle.machine.specs.Runs.{Terms, Stage, system_of, rooms_of, record_of, shown, alone, odd_rooms, oversize, unknown_edition, unknown_way}
use Rattle.machine.specs.Runs.{check_terms, check_run, given_of, run_with, run_of}
use Rattle.machine.specs.Meaning.{WorksIn}
use Rattle.machine.specs.Promises.{FewPlaces, Rules, RunEnded, in_edition, by_way, Decides, RunPromises, WorkingPromises}
use Rattle.machine.proofs.Language.{Sound}
use Rattle.machine.proofs.Hitting.{growth_sound}
use Rattle.machine.proofs.Rising.{Kept, none_covered}
use Rattle.machine.proofs.Invariant.{Chain, first_symbol}
use Rattle.machine.proofs.Chains.{Working, AllSound, Ended, each_same, chain_working, chain_within, chain_ends, chain_works_stays}
use Rattle.machine.proofs.Chains.{begin_beginning, begin_alike}
use Rattle.machine.proofs.Unpending.{grown_passes, block_leaves}
use Rattle.machine.proofs.Blocks.{blocks_made, hints_taken}
use Rattle.machine.proofs.Images.{image_lawful, accepted_by_runs}
use Rattle.machine.proofs.Judging.{ended_rules, ended_how, ended_decides}

-- what holds of what each step is given by its terms
pub given_each : (image : List ℕ) (P : Given → Type 0) (steps : List Terms) → Each (λ terms. P (given_of image terms)) steps → Each P (map (given_of image) steps)
given_each image P [] all = λ g m. absurd (in_none m)
given_each image P (terms ∷ steps) all = each_more (all terms (here refl)) (given_each image P steps (λ other m. all other (there m)))

-- whatever steps on a valid image are given, they grow soundly
pub given_sound : (image : List ℕ) → Valid image → (steps : List Terms) → AllSound (system_of image) (map (given_of image) steps)
given_sound image valid steps = given_each image (λ g. Sound (system_of image) g.grow) steps (λ terms m. growth_sound image valid terms.way)

-- what the tests of 30 and 31 say of the rooms
test_even : (lent : Lent) → EvenRooms lent → odd_rooms lent ≡ false
unfolding odd_rooms
test_even lent even = search tests depth 8

even_test : (lent : Lent) → odd_rooms lent ≡ false → EvenRooms lent
unfolding odd_rooms
even_test lent e = search facts depth 8

test_few : (lent : Lent) (hints : List ℕ) → FewPlaces lent hints → oversize lent hints ≡ false
unfolding oversize
test_few lent hints few = search tests depth 8

few_test : (lent : Lent) (hints : List ℕ) → oversize lent hints ≡ false → FewPlaces lent hints
unfolding oversize
few_test lent hints e = search facts depth 8

-- what the checks of the rooms leave where none applies, and those of a run
pub record RoomsChecked (lent : Lent) : Type 0 where
  pub even : EvenRooms lent
  pub few_places : length lent.word.cases ≤ 65536

pub record Checked (image : List ℕ) (lent : Lent) : Type 0 where
  pub valid : Valid image
  pub even : EvenRooms lent
  pub few_places : length lent.word.cases ≤ 65536

pub rooms_passed : (lent : Lent) (hints : List ℕ) (edition way : ℕ) → check_terms lent hints edition way 0 ≡ 0 → RoomsChecked lent
unfolding check_terms odd_rooms oversize
rooms_passed lent hints edition way e = search passed depth 10

check_high : (b : Bool) (number later : ℕ) → 20 ≤ number → (later ≡ 0) ⊎ (20 ≤ later) → (check b number later ≡ 0) ⊎ (20 ≤ check b number later)
unfolding check
check_high true number later l h = inr l
check_high false number later l h = h

-- editions 1 and 2 are refused alike
editions_checked : (lent : Lent) (hints : List ℕ) (way number : ℕ) → check_terms lent hints 1 way number ≡ check_terms lent hints 2 way number
unfolding check_terms unknown_edition neg ◌or◌
editions_checked lent hints way zero = refl
editions_checked lent hints way (suc number) = refl

-- the checks that follow the image's
module _ (lent : Lent) (hints : List ℕ) (edition way : ℕ) where
  -- an image that is refused is refused under its own number
  image_kept : (number : ℕ) → (number ≡ 0 → ⊥) → check_terms lent hints edition way number ≡ number
  unfolding check_terms
  image_kept zero n = absurd (n refl)
  image_kept (suc number) n = refl

  -- whatever refuses a run in edition 1 and by way 0 comes before 36
  edition_waits : (number : ℕ) → (check_terms lent hints 1 0 number ≡ 0 → ⊥)
      → check_terms lent hints edition way number ≡ check_terms lent hints 1 0 number
  unfolding check_terms unknown_edition unknown_way check neg ◌or◌
  edition_waits zero n = at (odd_rooms lent) (oversize lent hints) refl refl
    where
      at : (odd over : Bool) → odd_rooms lent ≡ odd → oversize lent hints ≡ over → check_terms lent hints edition way 0 ≡ check_terms lent hints 1 0 0
      at true over e f = rw e
      at false true e f = rw (e, f)
      at false false e f = absurd (n (rw (e, f)))
  edition_waits (suc number) n = refl

  -- whatever refuses a run by way 0 comes before 37
  way_waits : (number : ℕ) → (check_terms lent hints edition 0 number ≡ 0 → ⊥) → check_terms lent hints edition way number ≡ check_terms lent hints edition 0 number
  unfolding check_terms unknown_way check neg ◌or◌
  way_waits zero n = at (odd_rooms lent) (oversize lent hints) (unknown_edition edition) refl refl refl
    where
      at : (odd over unknown : Bool) → odd_rooms lent ≡ odd → oversize lent hints ≡ over → unknown_edition edition ≡ unknown
          → check_terms lent hints edition way 0 ≡ check_terms lent hints edition 0 0
      at true over unknown e f g = rw e
      at false true unknown e f g = rw (e, f)
      at false false true e f g = rw (e, f, g)
      at false false false e f g = absurd (n (rw (e, f, g)))
  way_waits (suc number) n = refl

  -- where nothing refuses it in edition 1 and by way 0, an edition other than 1 or 2 does
  edition_refused : (edition ≡ 1 → ⊥) → (edition ≡ 2 → ⊥) → (number : ℕ) → check_terms lent hints 1 0 number ≡ 0
      → check_terms lent hints edition way number ≡ 36
  unfolding check_terms unknown_edition
  edition_refused first second zero e = sym (search (checks, test_failed, later_none) depth 10)
  edition_refused first second (suc number) e = absurd (omega arith)

  -- where nothing refuses it by way 0, a way other than 0 or 1 does
  way_refused : (way ≡ 0 → ⊥) → (way ≡ 1 → ⊥) → (number : ℕ) → check_terms lent hints edition 0 number ≡ 0 → check_terms lent hints edition way number ≡ 37
  unfolding check_terms unknown_way
  way_refused first second zero e = sym (search (checks, test_failed, later_none) depth 10)
  way_refused first second (suc number) e = absurd (omega arith)

  image_first : (number : ℕ) → check_terms lent hints edition way number ≡ 0 → number ≡ 0
  unfolding check_terms
  image_first zero e = refl
  image_first (suc number) e = absurd (omega arith)

  terms_number : (number : ℕ) → (number ≡ 0) ⊎ (20 ≤ number) → (check_terms lent hints edition way number ≡ 0) ⊎ (20 ≤ check_terms lent hints edition way number)
  unfolding check_terms
  terms_number zero h =
      check_high _ _ _ (omega arith)
      (check_high _ _ _ (omega arith) (check_high _ _ _ (omega arith) (check_high _ _ 0 (omega arith) (inl refl))))
  terms_number (suc number) h = h

module _ (image : List ℕ) (lent : Lent) (terms : Terms) where
  pub checked : check_run image lent terms ≡ 0 → Checked image lent
  unfolding check_run
  checked e =
      let v : check_image image ≡ 0 = image_first lent terms.hints terms.edition terms.way (check_image image) e in
      let rooms = rooms_passed lent terms.hints terms.edition terms.way (ap (check_terms lent terms.hints terms.edition terms.way) (sym v) ∙ e) in
      record { valid = v; even = rooms.even; few_places = rooms.few_places }

  -- a run's checks answer 0 or a number from 20 on
  pub run_number : (check_run image lent terms ≡ 0) ⊎ (20 ≤ check_run image lent terms)
  unfolding check_run
  run_number = terms_number lent terms.hints terms.edition terms.way (check_image image) (high (check_number image))
    where
      high : (check_image image ≡ 0) ⊎ ((20 ≤ check_image image) × (check_image image ≤ 27)) → (check_image image ≡ 0) ⊎ (20 ≤ check_image image)
      high (inl e) = inl e
      high (inr h) = inr h.0

  -- the image's number comes first
  image_number_lem : (Valid image → ⊥) → check_run image lent terms ≡ check_image image
  unfolding check_run
  image_number_lem = image_kept lent terms.hints terms.edition terms.way (check_image image)

-- 30 and 31 come of a valid image alone: a number of the image's is below them
module _ (image : List ℕ) (lent : Lent) (terms : Terms) where
  after_image : {number : ℕ} → 27 < number → check_run image lent terms ≡ number
      → Valid image × (check_terms lent terms.hints terms.edition terms.way 0 ≡ number)
  unfolding check_run check_terms
  after_image {number} l = at (check_image image) refl (check_number image)
    where
      at : (own : ℕ) → check_image image ≡ own → (check_image image ≡ 0) ⊎ ((20 ≤ check_image image) × (check_image image ≤ 27))
          → check_terms lent terms.hints terms.edition terms.way own ≡ number
          → Valid image × (check_terms lent terms.hints terms.edition terms.way 0 ≡ number)
      at zero own h e = (own, e)
      at (suc own) is (inl valid) e = absurd (omega arith)
      at (suc own) is (inr h) e = absurd (omega arith)

  of_valid : Valid image → check_run image lent terms ≡ check_terms lent terms.hints terms.edition terms.way 0
  unfolding check_run
  of_valid valid = ap (check_terms lent terms.hints terms.edition terms.way) valid

  -- uneven tables are refused under 30, and even ones that are too long under 31
  gives_odd : (EvenRooms lent → ⊥) → check_terms lent terms.hints terms.edition terms.way 0 ≡ 30
  unfolding check_terms check
  gives_odd f = at (odd_rooms lent) refl
    where
      at : (b : Bool) → odd_rooms lent ≡ b → check_terms lent terms.hints terms.edition terms.way 0 ≡ 30
      at true e = rw e
      at false e = absurd (f (even_test lent e))

  gives_oversize : EvenRooms lent → (FewPlaces lent terms.hints → ⊥) → check_terms lent terms.hints terms.edition terms.way 0 ≡ 31
  unfolding check_terms check
  gives_oversize even f = at (oversize lent terms.hints) refl (test_even lent even)
    where
      at : (b : Bool) → oversize lent terms.hints ≡ b → odd_rooms lent ≡ false → check_terms lent terms.hints terms.edition terms.way 0 ≡ 31
      at true e odd = rw (odd, e)
      at false e odd = absurd (f (few_test lent terms.hints e))

  -- and no others
  gives_30 : check_terms lent terms.hints terms.edition terms.way 0 ≡ 30 → odd_rooms lent ≡ true
  unfolding check_terms check
  gives_30 = at (odd_rooms lent) (oversize lent terms.hints) (unknown_edition terms.edition) (unknown_way terms.way)
    where
      at : (odd over edition way : Bool) → check odd 30 (check over 31 (check edition 36 (check way 37 0))) ≡ 30 → odd ≡ true
      at true over edition way e = refl
      at false true edition way e = absurd (omega arith)
      at false false true way e = absurd (omega arith)
      at false false false true e = absurd (omega arith)
      at false false false false e = absurd (omega arith)

  gives_31 : check_terms lent terms.hints terms.edition terms.way 0 ≡ 31 → (odd_rooms lent ≡ false) × (oversize lent terms.hints ≡ true)
  unfolding check_terms check
  gives_31 = at (odd_rooms lent) (oversize lent terms.hints) (unknown_edition terms.edition) (unknown_way terms.way)
    where
      at : (odd over edition way : Bool) → check odd 30 (check over 31 (check edition 36 (check way 37 0))) ≡ 31 → (odd ≡ false) × (over ≡ true)
      at true over edition way e = absurd (omega arith)
      at false true edition way e = (refl, refl)
      at false false true way e = absurd (omega arith)
      at false false false true e = absurd (omega arith)
      at false false false false e = absurd (omega arith)

  clash : {b : Bool} → b ≡ true → b ≡ false → ⊥
  clash t f = fails f (holds t)

  pub odd_rooms_lem : (check_run image lent terms ≡ 30) ↔ (Valid image × (EvenRooms lent → ⊥))
  odd_rooms_lem = (
    λ e. let h = after_image (omega arith) e in (h.0, λ even. clash (gives_30 h.1) (test_even lent even)),
    λ h. of_valid h.0 ∙ gives_odd h.1,
  )

  pub oversize_rooms : (check_run image lent terms ≡ 31) ↔ (Valid image × EvenRooms lent × (FewPlaces lent terms.hints → ⊥))
  oversize_rooms = (
    λ e.
        let h = after_image (omega arith) e in
        let given = gives_31 h.1 in
        (h.0, even_test lent given.0, λ few. clash given.1 (test_few lent terms.hints few)),
    λ h. of_valid h.0 ∙ gives_oversize h.1 h.2,
  )

module _ (image : List ℕ) (lent : Lent) (terms : Terms) where
  -- a run is refused, or it is the machine's
  pub refused_run : (number : ℕ) → check_run image lent terms ≡ number → 20 ≤ number → run_of image lent terms ≡ alone lent number
  unfolding run_of run_with
  refused_run zero e l = absurd (omega arith)
  refused_run (suc number) e l = ap (run_with image lent terms) e

  pub machine_run : check_run image lent terms ≡ 0
      → run_of image lent terms ≡ shown lent (chain (system_of image) (rooms_of lent) (begin (system_of image) terms.edition) (calls_of (given_of image terms)))
  unfolding run_of run_with machine
  machine_run e = ap (run_with image lent terms) e

  refuses : (check_run image lent terms ≡ 0 → ⊥) → run_of image lent terms ≡ alone lent (check_run image lent terms)
  refuses n = at (run_number image lent terms)
    where
      at : (check_run image lent terms ≡ 0) ⊎ (20 ≤ check_run image lent terms) → run_of image lent terms ≡ alone lent (check_run image lent terms)
      at (inl e) = absurd (n e)
      at (inr h) = refused_run (check_run image lent terms) refl h

  -- a number that is the checks' and comes from a check that refuses
  refuses_alike : (number : ℕ) → check_run image lent terms ≡ number → (number ≡ 0 → ⊥) → run_of image lent terms ≡ alone lent number
  refuses_alike number e n = subst (λ (x : ℕ). run_of image lent terms ≡ alone lent x) e (refuses (λ z. n (sym e ∙ z)))

  refuses_image : (Valid image → ⊥) → run_of image lent terms ≡ alone lent (check_image image)
  refuses_image n = refuses_alike _ (image_number_lem image lent terms n) n

  -- an edition other than 1 or 2 is refused, after whatever refuses the run in edition 1 and by way 0
  refuses_edition : (terms.edition ≡ 1 → ⊥) → (terms.edition ≡ 2 → ⊥) → check_run image lent (in_edition 1 (by_way 0 terms)) ≡ 0
      → run_of image lent terms ≡ alone lent 36
  unfolding check_run
  refuses_edition first second e = refuses_alike 36 (edition_refused lent terms.hints terms.edition terms.way first second (check_image image) e) (λ z. omega arith)

  edition_after : (check_run image lent (in_edition 1 (by_way 0 terms)) ≡ 0 → ⊥)
      → run_of image lent terms ≡ alone lent (check_run image lent (in_edition 1 (by_way 0 terms)))
  unfolding check_run
  edition_after n = refuses_alike _ (edition_waits lent terms.hints terms.edition terms.way (check_image image) n) n

  -- a way other than 0 or 1 is refused, after whatever refuses the run by way 0
  refuses_way : (terms.way ≡ 0 → ⊥) → (terms.way ≡ 1 → ⊥) → check_run image lent (by_way 0 terms) ≡ 0 → run_of image lent terms ≡ alone lent 37
  unfolding check_run
  refuses_way first second e = refuses_alike 37 (way_refused lent terms.hints terms.edition terms.way first second (check_image image) e) (λ z. omega arith)

  way_after : (check_run image lent (by_way 0 terms) ≡ 0 → ⊥) → run_of image lent terms ≡ alone lent (check_run image lent (by_way 0 terms))
  unfolding check_run
  way_after n = refuses_alike _ (way_waits lent terms.hints terms.edition terms.way (check_image image) n) n

  -- a run that is not refused ends
  end_is : Ended (chain (system_of image) (rooms_of lent) (begin (system_of image) terms.edition) (calls_of (given_of image terms)))
  end_is = chain_ends (system_of image) (rooms_of lent) terms.edition (given_of image terms)

  -- what holds of its terms holds of each of its calls
  calls_each : (P : Given → Type 0) → P (given_of image terms) → Each P (calls_of (given_of image terms))
  calls_each P p = each_same P (given_of image terms) p (suc terms.allowance)

  module _ (none : check_run image lent terms ≡ 0) where
    shows : run_of image lent terms ≡ shown lent (ends end_is.outcome end_is.left)
    shows = machine_run none ∙ ap (shown lent) end_is.is

    valid : Valid image
    valid = (checked image lent terms none).valid

    sound : AllSound (system_of image) (calls_of (given_of image terms))
    sound = calls_each (λ g. Sound (system_of image) g.grow) (growth_sound image valid terms.way)

    run_rules : Rules image lent terms.edition (run_of image lent terms)
    run_rules = ended_rules image lent terms.edition valid (checked image lent terms none).even sound end_is.is shows

    run_ended : RunEnded image lent terms.edition (calls_of (given_of image terms)) (run_of image lent terms)
    run_ended = ended_how image lent terms.edition valid (checked image lent terms none).even sound end_is.is shows

    run_decides : 2 ^ states_of image ≤ length lent.room.masks → 2 ^ states_of image ≤ length lent.word.cases → 4 ^ suc (states_of image) ≤ terms.allowance
        → Decides image lent terms.edition (calls_of (given_of image terms)) (4 ^ suc (states_of image)) (run_of image lent terms)
    run_decides places levels enough =
        ended_decides image lent terms.edition valid (checked image lent terms none).even sound end_is.is shows places levels
        (calls_each (λ g. 4 ^ suc (states_of image) ≤ g.allowance) enough)

    run_allowed : (run_of image lent terms).run.steps ≤ terms.allowance
    unfolding record_of
    run_allowed =
        subst (λ (r : Stage). r.run.steps ≤ terms.allowance) (sym (machine_run none))
        (chain_within (system_of image) (rooms_of lent) terms.allowance terms.edition (calls_of (given_of image terms))
        (calls_each (λ g. g.allowance ≤ terms.allowance) (omega arith)))

  in_allowance : (run_of image lent terms).run.steps ≤ terms.allowance
  in_allowance = at (run_number image lent terms)
    where
      at : (check_run image lent terms ≡ 0) ⊎ (20 ≤ check_run image lent terms) → (run_of image lent terms).run.steps ≤ terms.allowance
      at (inl e) = run_allowed e
      at (inr h) = omega (arith, ap (λ (r : Stage). r.run.steps) (refused_run (check_run image lent terms) refl h))

  pub run_promises : RunPromises image lent terms (run_of image lent terms)
  run_promises =
      record {
        refuses = refuses;
        refuses_image = refuses_image;
        refuses_only = λ l e. omega (arith, (run_rules e).other);
        refuses_edition = refuses_edition;
        edition_after = edition_after;
        refuses_way = refuses_way;
        way_after = way_after;
        judged = run_rules;
        ended = run_ended;
        in_allowance = in_allowance;
        decides = λ none few. run_decides none;
      }

-- where the start is not final the two editions are one
pub editions_agree : (image : List ℕ) (lent : Lent) (terms : Terms) → (Accepted (automaton_of image) [] → ⊥)
    → run_of image lent (in_edition 1 terms) ≡ run_of image lent (in_edition 2 terms)
unfolding run_of run_with check_run machine
editions_agree image lent terms not_final =
    ap (run_with image lent (in_edition 1 terms)) (editions_checked lent terms.hints terms.way (check_image image))
    ∙ at (check_run image lent (in_edition 2 terms)) refl
  where
    at : (number : ℕ) → check_run image lent (in_edition 2 terms) ≡ number
        → run_with image lent (in_edition 1 terms) number ≡ run_with image lent (in_edition 2 terms) number
    at zero e =
        let valid = (checked image lent (in_edition 2 terms) e).valid in
        ap (λ (n : Next). shown lent (chain (system_of image) (rooms_of lent) n (calls_of (given_of image terms))))
        (begin_alike (system_of image) (λ t. not_final ((accepted_by_runs image valid []).1 (λ s m. absurd (in_none m), t))) 1 2)
    at (suc number) e = refl

-- what holds of a configuration in which a run on a valid image works, whatever its steps were given
works_in : (image : List ℕ) (rooms : Rooms) (edition : ℕ) (steps : List Terms) {c : Configuration} → Valid image
    → WorksIn (system_of image) rooms edition (map (given_of image) steps) c → Working (system_of image) rooms c
works_in image rooms edition steps valid works =
    chain_working (system_of image) (image_lawful image valid) rooms edition (map (given_of image) steps) (given_sound image valid steps) works

-- a block leaves the cases pending that waited above X, and no other
pub block_unpends : (image : List ℕ) (rooms : Rooms) (edition : ℕ) (steps : List Terms) (terms : Terms) (X : Pending) (rest : List Pending)
    (c d : Configuration) → Valid image → WorksIn (system_of image) rooms edition (map (given_of image) steps) c → c.pending ≡ X ∷ rest
    → step (system_of image) (given_of image terms) c ≡ blocks d → d.pending ≡ rest
block_unpends image rooms edition steps terms X rest c d valid works waits made =
    block_leaves (system_of image) refl (given_of image terms) (growth_sound image valid terms.way) c
    (works_in image rooms edition steps valid works).holds waits made

-- a case that is blocked passes the block test itself
pub blocked_passes : (image : List ℕ) (rooms : Rooms) (edition : ℕ) (steps : List Terms) (terms : Terms) (X : Pending) (rest : List Pending)
    (c d : Configuration) → Valid image → WorksIn (system_of image) rooms edition (map (given_of image) steps) c → c.pending ≡ X ∷ rest
    → step (system_of image) (given_of image terms) c ≡ blocks d → T (passes (system_of image) c.table (c.level - suc (length rest)) X.case X.case)
blocked_passes image rooms edition steps terms X rest c d valid works waits made =
    grown_passes (system_of image) (given_of image terms) c (works_in image rooms edition steps valid works).holds waits made

-- what is promised of a configuration in which a run works
pub working : (image : List ℕ) (rooms : Rooms) (edition : ℕ) (steps : List Terms) (c : Configuration) → Valid image
    → WorksIn (system_of image) rooms edition (map (given_of image) steps) c → WorkingPromises image rooms edition (map (given_of image) steps) c
unfolding beginning
working image rooms edition steps c valid works =
    let w = works_in image rooms edition steps valid works in
    let S = system_of image in
    let begun = begin_beginning S edition in
    record {
      blocks = omega (arith, blocks_made S rooms (begin S edition) _ works, ap (λ (b : Configuration). b.blocks) begun);
      accepted = omega (arith, hints_taken S rooms (begin S edition) _ works, ap (λ (b : Configuration). b.accepted) begun);
      first_symbol = λ lower p e. first_symbol lower p (subst (Chain S c.table c.level) e w.holds.chain);
      none_covered = λ before after blocker e. none_covered before blocker after (subst (Kept S (suc c.level)) e w.holds.kept);
      entered_in_order = w.stamped;
      in_larger_rooms = λ larger raised blockers word more same. chain_works_stays S rooms larger blockers word edition more same works;
    }
