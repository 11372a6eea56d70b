-- A run that has ended keeps the rules by which it is judged, from what holds of its outcome; whatever its calls were given, at once or step by step.
-- Assumes nothing.
use Prim.Native.Nat.{ℕ, suc, ◌-◌, ◌^◌, ◌≤◌, ◌<◌}
use mathlib.Core.Path.{◌≡◌, refl, sym, ap, subst, ◌∙◌}
use mathlib.Core.Bool.{false}
use mathlib.Core.List.{List, [], ◌∷◌, ◌++◌}
use mathlib.Core.Logic.{◌↔◌, ◌⊎◌, inl, inr}
use native.Mathlib.Omega.{arith}
use lib.Dec.{T}
use lib.ListN.{length, replicate}
use Rattle.lists.specs.Lists.{Each}
use Rattle.lists.proofs.Lists.{in_none}
use Rattle.automata.specs.Image.{Valid, states_of}
use Rattle.automata.specs.Automaton.{automaton_of, HoldOne}
use Rattle.automata.specs.Acceptance.{Accepted}
use Rattle.machine.specs.System.{System}
use Rattle.machine.specs.Machine.{Blocker, Configuration, Given, Rooms, beginning, goes_on, ends, chain, start_answer, begin}
use Rattle.machine.specs.Machine.{Outcome, nonempty, empty, steps_lack, blockers_lack, word_lacks, starts_final}
use Rattle.machine.specs.Meaning.{Closed, EnteredInOrder}
use Rattle.machine.specs.Lent.{BlockerRoom, Lent, EvenRooms, zeroed, column, column_back, placed, each_table, with_table, with_pending, with_word}
use Rattle.machine.specs.Runs.{Stage, system_of, rooms_of, end_number, number_of, record_of, word_in, word_left, tables_after, shown, alone}
use Rattle.machine.specs.Promises.{held_by, WordFound, Rules, RunEnded, Verdict, Decides, Agreed}
use Rattle.machine.proofs.Language.{IsVerdict, Word, accepts, Lawful, NoneShorter, Agree, both_nonempty, both_empty, both_at_start}
use Rattle.machine.proofs.Steps.{ends_once}
use Rattle.machine.proofs.Verdicts.{RightAnswer, closed_none, starts_final_lem, starts_nonempty}
use Rattle.machine.proofs.Entering.{Stamped}
use Rattle.machine.proofs.Chains.{Done, AllSound, chain_done, chain_ended, chain_decided, chain_verdict_stays}
use Rattle.machine.proofs.Agreeing.{right_verdicts_agree}
use Rattle.machine.proofs.LentTables.{tables_even, column_whole, placed_whole, placed_none, read_back}
use Rattle.machine.proofs.Images.{image_lawful, accepted_by_runs, none_shorter_by_runs, same_language}

-- the number of an end is that of a verdict or a stop
pub number_low : (o : Outcome) → end_number o ≤ 5
unfolding end_number
number_low (nonempty word) = omega arith
number_low empty = omega arith
number_low steps_lack = omega arith
number_low blockers_lack = omega arith
number_low word_lacks = omega arith
number_low starts_final = omega arith

-- an end leaves no symbols but those of a word that was found
pub wordless : (o : Outcome) → (end_number o ≡ 1 → ⊥) → word_in o ≡ []
unfolding end_number word_in
wordless (nonempty word) n = absurd (n refl)
wordless empty n = refl
wordless steps_lack n = refl
wordless blockers_lack n = refl
wordless word_lacks n = refl
wordless starts_final n = refl

-- 2 and 3 lie between the verdicts and 4
stop_low : {number : ℕ} → (number ≡ 2) ⊎ (number ≡ 3) → (1 < number) × (number < 4)
stop_low (inl e) = omega (arith, e)
stop_low (inr e) = omega (arith, e)

-- where no blocker is held, nothing is pending and no word was found, every place is 0
module _ (lent : Lent) (even : EvenRooms lent) where
  no_blockers : with_table (length lent.room.masks) [] lent.room ≡ (zeroed lent).room
  unfolding with_table column
  no_blockers =
      tables_even (λ field before. placed (length lent.room.masks) [] before) (λ field before. replicate (length before) 0) lent.room even.blockers
      (λ field before e. ap (λ (k : ℕ). placed k [] before) e ∙ placed_none before)

  no_symbols : placed (length lent.word.cases) [] lent.word.symbols ≡ (zeroed lent).word.symbols
  no_symbols = ap (λ (k : ℕ). placed k [] lent.word.symbols) even.symbols ∙ placed_none lent.word.symbols

  pub ends_zero : (o : Outcome) (c : Configuration) → c.table ≡ [] → word_in o ≡ [] → (shown lent (ends o c)).tables ≡ zeroed lent
  unfolding tables_after word_left with_word
  ends_zero o c table word = rw (table, word, no_blockers, placed_none lent.word.cases, no_symbols)

  pub works_zero : (c : Configuration) → c.table ≡ [] → c.pending ≡ [] → (shown lent (goes_on c)).tables ≡ zeroed lent
  unfolding tables_after word_left with_pending column_back
  works_zero c table pending = rw (table, pending, no_blockers, placed_none lent.word.cases, no_symbols)

module _ (lent : Lent) (even : EvenRooms lent) (o : Outcome) (c : Configuration) where
  -- what the blocker room holds when these blockers stand in it
  end_room : List Blocker → BlockerRoom
  end_room table = each_table (λ field before. column field table ++ replicate (length before - length table) 0) lent.room

  room_end : (shown lent (ends o c)).tables.room ≡ end_room c.table
  unfolding tables_after with_table end_room
  room_end =
      tables_even (λ field before. placed (length lent.room.masks) (column field c.table) before) _ lent.room even.blockers
      (λ field before e. column_whole field c.table (length lent.room.masks) before e)

  cases_end : (shown lent (ends o c)).tables.word.cases ≡ replicate (length lent.word.cases) 0
  unfolding tables_after word_left with_word
  cases_end = placed_none lent.word.cases

  symbols_end : (shown lent (ends o c)).tables.word.symbols ≡ word_in o ++ replicate (length lent.word.symbols - length (word_in o)) 0
  unfolding tables_after word_left with_word
  symbols_end = ap (λ (k : ℕ). placed k (word_in o) lent.word.symbols) even.symbols ∙ placed_whole (word_in o) lent.word.symbols

  -- the blockers that are held are those of the configuration
  held_end : held_by (shown lent (ends o c)) ≡ c.table
  unfolding end_room record_of
  held_end =
      rw room_end (read_back c.table (each_table (λ field before. replicate (length before - length c.table) 0) lent.room))

  leaves_blockers : (shown lent (ends o c)).tables.room
      ≡ each_table (λ field before. column field (held_by (shown lent (ends o c))) ++ replicate (length before - (shown lent (ends o c)).run.held) 0) lent.room
  unfolding end_room record_of
  leaves_blockers = room_end ∙ sym (rw held_end)

  entered_in_order : Stamped c → EnteredInOrder 0 (shown lent (ends o c)).run.steps (held_by (shown lent (ends o c)))
  unfolding record_of
  entered_in_order = subst (EnteredInOrder 0 c.steps) (sym held_end)

module _ (image : List ℕ) (lent : Lent) (edition : ℕ) (valid : Valid image) (even : EvenRooms lent) where
  S : System
  S = system_of image

  lawful : Lawful (system_of image)
  lawful = image_lawful image valid

  means : (word : List ℕ) → Accepted (automaton_of image) word → Word (system_of image) word × T (accepts (system_of image) word)
  means word = (accepted_by_runs image valid word).0

  -- in edition 2 the word that was found is not the empty one, since then the start would have been answered as final
  not_the_empty_word : (word : List ℕ) {c : Configuration} → Done (system_of image) (rooms_of lent) edition (nonempty word) c → edition ≡ 2 → 1 ≤ length word
  unfolding end_number
  not_the_empty_word [] d second = absurd (omega (arith, ap end_number (ends_once (d.start d.right.shortest.accepted) ∙ starts_final_lem second)))
  not_the_empty_word (s ∷ word) d second = omega arith

  found : (o : Outcome) {c : Configuration} → Done (system_of image) (rooms_of lent) edition o c → end_number o ≡ 1
      → WordFound image lent edition (shown lent (ends o c))
  unfolding end_number word_in record_of
  found (nonempty word) {c} d e =
      let right = d.right in
      record {
        word = word;
        fits = omega (arith, even.symbols, right.long, d.counted.word_fits);
        stands = symbols_end lent even (nonempty word) c;
        accepted = (accepted_by_runs image valid word).1 (right.shortest.symbols, right.shortest.accepted);
        long = right.long;
        shortest = none_shorter_by_runs image valid right.shortest.least;
        some_symbol = not_the_empty_word word d;
      }
  found empty d e = absurd (omega arith)
  found steps_lack d e = absurd (omega arith)
  found blockers_lack d e = absurd (omega arith)
  found word_lacks d e = absurd (omega arith)
  found starts_final d e = absurd (omega arith)

  closed_frame : (o : Outcome) {c : Configuration} → Done (system_of image) (rooms_of lent) edition o c → end_number o ≡ 0
      → Closed (system_of image) (held_by (shown lent (ends o c)))
  unfolding end_number
  closed_frame empty {c} d e = subst (Closed (system_of image)) (sym (held_end lent even empty c)) d.right
  closed_frame (nonempty word) d e = absurd (omega arith)
  closed_frame steps_lack d e = absurd (omega arith)
  closed_frame blockers_lack d e = absurd (omega arith)
  closed_frame word_lacks d e = absurd (omega arith)
  closed_frame starts_final d e = absurd (omega arith)

  none_accepted : (o : Outcome) {c : Configuration} → Done (system_of image) (rooms_of lent) edition o c → end_number o ≡ 0
      → (word : List ℕ) → Accepted (automaton_of image) word → ⊥
  none_accepted o d e word a = let h = means word a in closed_none (system_of image) lawful _ (closed_frame o d e) word h.0 h.1

  leaves_symbols : (o : Outcome) (c : Configuration) → (end_number o ≡ 1 → ⊥)
      → (shown lent (ends o c)).tables.word.symbols ≡ replicate (length lent.word.symbols) 0
  unfolding tables_after word_left with_word
  leaves_symbols o c n = rw (wordless o n) (no_symbols lent even)

  -- 5 shows that the start is final, and then nothing was done
  shows_final : (o : Outcome) → end_number o ≡ 5 → o ≡ starts_final
  unfolding end_number
  shows_final (nonempty word) e = absurd (omega arith)
  shows_final empty e = absurd (omega arith)
  shows_final steps_lack e = absurd (omega arith)
  shows_final blockers_lack e = absurd (omega arith)
  shows_final word_lacks e = absurd (omega arith)
  shows_final starts_final e = refl

  final_right : (o : Outcome) {c : Configuration} → Done (system_of image) (rooms_of lent) edition o c → end_number o ≡ 5
      → RightAnswer (system_of image) (rooms_of lent) edition starts_final c
  final_right o {c} d e = subst (λ (x : Outcome). RightAnswer (system_of image) (rooms_of lent) edition x c) (shows_final o e) d.right

  final_exactly : (o : Outcome) {c : Configuration} → Done (system_of image) (rooms_of lent) edition o c
      → (end_number o ≡ 5) ↔ ((edition ≡ 2) × Accepted (automaton_of image) [])
  unfolding end_number
  final_exactly o d = (accepted, answered)
    where
      accepted : end_number o ≡ 5 → (edition ≡ 2) × Accepted (automaton_of image) []
      accepted e =
          let right = final_right o d e in
          (right.0, (accepted_by_runs image valid []).1 (λ s m. absurd (in_none m), right.1))

      answered : (edition ≡ 2) × Accepted (automaton_of image) [] → end_number o ≡ 5
      answered h = ap end_number (ends_once (d.start (means [] h.1).1) ∙ starts_final_lem h.0)

  -- a start that is final, answered so: nothing was done
  at_start : (o answer : Outcome) {c : Configuration} → Done (system_of image) (rooms_of lent) edition o c → T (accepts (system_of image) [])
      → start_answer edition ≡ answer → word_in answer ≡ [] → shown lent (ends o c) ≡ alone (zeroed lent) (end_number answer)
  unfolding record_of number_of beginning
  at_start o answer d t is none =
      ap (shown lent) (d.start t)
      ∙ ap (λ (x : Outcome). shown lent (ends x beginning)) is
      ∙ rw (ends_zero lent even answer beginning refl none)

  starts_final_leaves : (o : Outcome) {c : Configuration} → Done (system_of image) (rooms_of lent) edition o c → end_number o ≡ 5
      → shown lent (ends o c) ≡ alone (zeroed lent) 5
  unfolding end_number word_in
  starts_final_leaves o d e = let right = final_right o d e in at_start o starts_final d right.1 (starts_final_lem right.0) refl

  starts_nonempty_leaves : (o : Outcome) {c : Configuration} → Done (system_of image) (rooms_of lent) edition o c → edition ≡ 1
      → Accepted (automaton_of image) [] → shown lent (ends o c) ≡ alone (zeroed lent) 1
  unfolding end_number word_in
  starts_nonempty_leaves o d first a = at_start o (nonempty []) d (means [] a).1 (starts_nonempty (λ second. omega arith)) refl

  -- after 0 no level is open
  empty_shut : (o : Outcome) {c : Configuration} → Done (system_of image) (rooms_of lent) edition o c → end_number o ≡ 0 → c.is_open ≡ false
  unfolding end_number
  empty_shut empty d e = d.halts.shut
  empty_shut (nonempty word) d e = absurd (omega arith)
  empty_shut steps_lack d e = absurd (omega arith)
  empty_shut blockers_lack d e = absurd (omega arith)
  empty_shut word_lacks d e = absurd (omega arith)
  empty_shut starts_final d e = absurd (omega arith)

  -- what a stop has shown of the system's words
  stop_shows : (o : Outcome) {c : Configuration} → Done (system_of image) (rooms_of lent) edition o c → 1 < end_number o → end_number o < 4
      → NoneShorter (system_of image) c.level
  unfolding end_number
  stop_shows steps_lack d l h = d.right
  stop_shows blockers_lack d l h = d.right
  stop_shows (nonempty word) d l h = absurd (omega arith)
  stop_shows empty d l h = absurd (omega arith)
  stop_shows word_lacks d l h = absurd (omega arith)
  stop_shows starts_final d l h = absurd (omega arith)

  word_stop_shows : (o : Outcome) {c : Configuration} → Done (system_of image) (rooms_of lent) edition o c → end_number o ≡ 4
      → NoneShorter (system_of image) (suc (length lent.word.cases))
  unfolding end_number
  word_stop_shows word_lacks d e = d.right
  word_stop_shows (nonempty word) d e = absurd (omega arith)
  word_stop_shows empty d e = absurd (omega arith)
  word_stop_shows steps_lack d e = absurd (omega arith)
  word_stop_shows blockers_lack d e = absurd (omega arith)
  word_stop_shows starts_final d e = absurd (omega arith)

  -- every rule
  pub rules : (o : Outcome) (c : Configuration) → Done (system_of image) (rooms_of lent) edition o c → Rules image lent edition (shown lent (ends o c))
  unfolding record_of number_of
  rules o c d =
      record {
        nonempty = found o d;
        empty = none_accepted o d;
        empty_frame = closed_frame o d;
        starts_final = final_exactly o d;
        starts_final_leaves = starts_final_leaves o d;
        starts_nonempty = starts_nonempty_leaves o d;
        stop_shows = λ s word a. let low = stop_low s in omega (arith, none_shorter_by_runs image valid (stop_shows o d low.0 low.1) word a);
        word_stop_shows = λ e word a. omega (arith, none_shorter_by_runs image valid (word_stop_shows o d e) word a);
        other = number_low o;
        none_pending = ap length d.halts.none_pending;
        empty_shut = empty_shut o d;
        held_fits = d.counted.table_fits;
        leaves_cases = cases_end lent even o c;
        leaves_symbols = leaves_symbols o c;
        leaves_blockers = leaves_blockers lent even o c;
        entered_in_order = entered_in_order lent even o c d.stamped;
      }

-- a number between 1 and 5 is no verdict
no_verdict : {edition number : ℕ} → 1 < number → number < 5 → Verdict edition number → ⊥
no_verdict l h (inl k) = omega arith
no_verdict l h (inr k) = omega (arith, k.1)

-- an outcome that shows a verdict is one
verdict_number : (edition : ℕ) (o : Outcome) → Verdict edition (end_number o) → IsVerdict o
unfolding end_number
verdict_number edition empty v = tt
verdict_number edition (nonempty word) v = tt
verdict_number edition steps_lack v = no_verdict (omega arith) (omega arith) v
verdict_number edition blockers_lack v = no_verdict (omega arith) (omega arith) v
verdict_number edition word_lacks v = no_verdict (omega arith) (omega arith) v
verdict_number edition starts_final v = tt

module _ (image other : List ℕ) (lent lent' : Lent) (edition : ℕ) {c c' : Configuration} where
  agreed : {o o' : Outcome} → Done (system_of image) (rooms_of lent) edition o c → Done (system_of other) (rooms_of lent') edition o' c' → Agree o o'
      → Agreed (shown lent (ends o c)) (shown lent' (ends o' c'))
  unfolding record_of number_of end_number
  agreed d d' (both_nonempty e) = record { verdict = refl; words = λ one. sym d.right.long ∙ e ∙ d'.right.long }
  agreed d d' both_empty = record { verdict = refl; words = λ one. absurd (omega arith) }
  agreed d d' both_at_start = record { verdict = refl; words = λ one. absurd (omega arith) }

  -- two runs with a verdict agree, within one edition
  pub results_agree : Valid image → Valid other → HoldOne image other → {o o' : Outcome} → Done (system_of image) (rooms_of lent) edition o c
      → Done (system_of other) (rooms_of lent') edition o' c' → Verdict edition (shown lent (ends o c)).run.answer
      → Verdict edition (shown lent' (ends o' c')).run.answer → Agreed (shown lent (ends o c)) (shown lent' (ends o' c'))
  unfolding record_of number_of
  results_agree valid valid' same {o} {o'} d d' v v' =
      agreed d d'
      (right_verdicts_agree (image_lawful image valid) (image_lawful other valid') (same_language image other same) (rooms_of lent) (rooms_of lent') edition
      o o' c c' (verdict_number edition o v) (verdict_number edition o' v') d.right d'.right d.start d'.start)

-- the number of a verdict
decided_number : {S : System} {rooms : Rooms} {edition : ℕ} (o : Outcome) {c : Configuration} → Done S rooms edition o c → IsVerdict o
    → Verdict edition (end_number o)
unfolding end_number
decided_number (nonempty word) d v = inl (omega arith)
decided_number empty d v = inl (omega arith)
decided_number steps_lack d v = absurd v
decided_number blockers_lack d v = absurd v
decided_number word_lacks d v = absurd v
decided_number starts_final d v = inr (d.right.0, refl)

-- a run that was begun in this edition and called so has ended, and r is what it left
module _ (image : List ℕ) (lent : Lent) (edition : ℕ) (valid : Valid image) (even : EvenRooms lent) {calls : List Given} (sound : AllSound (system_of image) calls)
    {o : Outcome} {c : Configuration} (is : chain (system_of image) (rooms_of lent) (begin (system_of image) edition) calls ≡ ends o c)
    {r : Stage} (shows : r ≡ shown lent (ends o c))
  where
    pub ended_done : Done (system_of image) (rooms_of lent) edition o c
    ended_done = chain_done (system_of image) (lawful image lent edition valid even) (rooms_of lent) edition calls sound is

    pub ended_rules : Rules image lent edition r
    ended_rules = subst (Rules image lent edition) (sym shows) (rules image lent edition valid even o c ended_done)

    pub ended_how : RunEnded image lent edition calls r
    ended_how = record {
      outcome = o;
      left = c;
      shows = shows;
      how = chain_ended (system_of image) (lawful image lent edition valid even) (rooms_of lent) edition calls sound is;
    }

    pub ended_decides : 2 ^ states_of image ≤ length lent.room.masks → 2 ^ states_of image ≤ length lent.word.cases
        → Each (λ given. 4 ^ suc (states_of image) ≤ given.allowance) calls → Decides image lent edition calls (4 ^ suc (states_of image)) r
    unfolding record_of number_of
    ended_decides places levels enough =
        let decided = chain_decided (system_of image) (lawful image lent edition valid even) (rooms_of lent) edition places levels calls sound enough is in
        subst (Decides image lent edition calls (4 ^ suc (states_of image))) (sym shows) (record {
          verdict = decided_number o ended_done decided.verdict;
          in_time = decided.in_time;
          unbounded = λ rooms raised b w larger.
              ap (shown lent) (sym (chain_verdict_stays (system_of image) (rooms_of lent) rooms b w edition larger decided.verdict is));
        })
