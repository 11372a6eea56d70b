-- What stands in lent tables: new entries in place of old ones keep a table's length and are read back as they are, one change after another is one
-- change, what is read from a table and written back changes nothing, and what no entry is put over stays. Assumes nothing.
use Prim.Native.Nat.{ℕ, zero, suc, ◌+◌, ◌-◌, ◌≤◌, ◌<◌, max}
use mathlib.Core.Path.{◌≡◌, refl, sym, ap, ◌∙◌}
use mathlib.Core.List.{List, [], ◌∷◌, ◌++◌, append-nil, append_assoc}
use native.Mathlib.Nat.{sub-zero}
use native.Mathlib.Omega.{arith}
use lib.ListN.{
  length,
  get_or,
  take,
  drop,
  replicate,
  length-append,
  length-drop,
  length-replicate,
  drop_of_length-le,
  replicate-append-replicate,
  take-append-drop,
}
use lib.Seq.{take-suc, drop-drop, append_snoc, get_or_at, get_or-drop, length-take-le}
use Rattle.lists.specs.Lists.{◌∈◌, here, there, Each}
use Rattle.lists.proofs.Lists.{in_none, each_more}
use Rattle.machine.specs.Machine.{Blocker, Pending}
use Rattle.machine.specs.Lent.{
  BlockerRoom,
  EvenRoom,
  blocker_at,
  blockers_from,
  WordRoom,
  word_room_of,
  pending_first,
  column,
  column_back,
  mask_of,
  level_of,
  entered_of,
  case_of,
  symbol_of,
  placed,
  each_table,
  with_table,
  with_pending,
  with_word,
}
use Rattle.machine.specs.Promises.{Changed}

-- as many blockers are read as are asked for
pub blockers_length : (room : BlockerRoom) (count at : ℕ) → length (blockers_from room count at) ≡ count
unfolding blockers_from
blockers_length room zero at = refl
blockers_length room (suc count) at = ap suc (blockers_length room count (suc at))

-- a column is as long as what it is of
pub column_length : {A : Type 0} (field : A → ℕ) (entries : List A) → length (column field entries) ≡ length entries
unfolding column
column_length field [] = refl
column_length field (entry ∷ entries) = ap suc (column_length field entries)

-- it has the field of each entry, at the entry's place, and no other number
pub in_column : {A : Type 0} (field : A → ℕ) {entry : A} {entries : List A} → entry ∈ entries → field entry ∈ column field entries
unfolding column
in_column field (here e) = here (ap field e)
in_column field (there m) = there (in_column field m)

pub column_at : {A : Type 0} (field : A → ℕ) (before : List A) (entry : A) (after : List A)
    → get_or (column field (before ++ entry ∷ after)) (length before) 0 ≡ field entry
unfolding column
column_at field [] entry after = refl
column_at field (first ∷ before) entry after = column_at field before entry after

pub column_each : {A : Type 0} (field : A → ℕ) (P : ℕ → Type 0) (entries : List A) → Each (λ entry. P (field entry)) entries
    → Each P (column field entries)
unfolding column
column_each field P [] f = λ number m. absurd (in_none m)
column_each field P (entry ∷ entries) f = each_more (f entry (here refl)) (column_each field P entries (λ other m. f other (there m)))

-- a table keeps its length
pub placed_length : (old : ℕ) (new before : List ℕ) → old ≤ length before → length new ≤ length before → length (placed old new before) ≡ length before
unfolding placed
placed_length old new before l h = simp (length-append, length-drop, length-replicate) (omega arith)

-- in place of a whole table: the new entries, and 0 after them
pub placed_whole : (new before : List ℕ) → placed (length before) new before ≡ new ++ replicate (length before - length new) 0
unfolding placed
placed_whole new before =
    let m : length before ≤ max (length before) (length new) = omega arith in
    rw (drop_of_length-le before m, append-nil)

-- with nothing new: 0 in each place
pub placed_none : (before : List ℕ) → placed (length before) [] before ≡ replicate (length before) 0
placed_none before = placed_whole [] before ∙ ap (λ (k : ℕ). replicate k 0) (sub-zero (length before))

-- as many new entries as old ones: no place becomes free
pub placed_exact : (new before : List ℕ) (old : ℕ) → length new ≡ old → placed old new before ≡ new ++ drop old before
unfolding placed
placed_exact new before old e =
    let free : old - length new ≡ 0 = omega arith in
    let most : max old (length new) ≡ old = omega arith in
    rw (free, most, append-nil)

-- two changes that are the same of each table with some property are the same of a room whose tables have it
module _ (f g : (Blocker → ℕ) → List ℕ → List ℕ) (room : BlockerRoom) where
  pub tables_alike : (P : List ℕ → Type 0) → P room.masks → P room.levels → P room.entered
      → ((field : Blocker → ℕ) (table : List ℕ) → P table → f field table ≡ g field table) → each_table f room ≡ each_table g room
  tables_alike P m l e same = rw (same mask_of room.masks m, same level_of room.levels l, same entered_of room.entered e)

  -- whatever the table
  pub tables_same : ((field : Blocker → ℕ) (table : List ℕ) → f field table ≡ g field table) → each_table f room ≡ each_table g room
  tables_same same = tables_alike (λ table. Unit {0}) tt tt tt (λ field table u. same field table)

  -- of tables that are as long as the masks
  pub tables_even : EvenRoom room → ((field : Blocker → ℕ) (table : List ℕ) → length room.masks ≡ length table → f field table ≡ g field table)
      → each_table f room ≡ each_table g room
  tables_even even = tables_alike (λ table. length room.masks ≡ length table) refl even.levels even.entered

-- the blockers one place further, behind one more entry
shifted : (blocker : Blocker) (room : BlockerRoom) (count at : ℕ)
    → blockers_from (each_table (λ field table. field blocker ∷ table) room) count (suc at) ≡ blockers_from room count at
unfolding blockers_from
shifted blocker room zero at = refl
shifted blocker room (suc count) at = ap (λ (rest : List Blocker). blocker_at room at ∷ rest) (shifted blocker room count (suc at))

-- the blockers behind some others
behind_others : (first : List Blocker) (room : BlockerRoom) (count : ℕ)
    → blockers_from (each_table (λ field table. column field first ++ table) room) count (length first) ≡ blockers_from room count 0
unfolding column
behind_others [] room count = refl
behind_others (blocker ∷ first) room count =
    shifted blocker (each_table (λ field table. column field first ++ table) room) count (length first) ∙ behind_others first room count

-- columns at the front of the tables are read back
pub read_back : (table : List Blocker) (room : BlockerRoom)
    → blockers_from (each_table (λ field behind. column field table ++ behind) room) (length table) 0 ≡ table
unfolding blockers_from column
read_back [] room = refl
read_back (blocker ∷ table) room =
    ap (λ (rest : List Blocker). blocker ∷ rest)
    (shifted blocker (each_table (λ field behind. column field table ++ behind) room) (length table) 0 ∙ read_back table room)

-- what follows the new entries: 0 in each place that became free, and what stood there before
unfoldable pub behind : ℕ → List ℕ → List ℕ → List ℕ
behind old new before = replicate (old - length new) 0 ++ drop (max old (length new)) before

pub placed_behind : (old : ℕ) (new before : List ℕ) → placed old new before ≡ new ++ behind old new before
unfolding placed behind
placed_behind old new before = append_assoc new (replicate (old - length new) 0) (drop (max old (length new)) before)

-- a list's column is made of those of its parts
pub column_append : {A : Type 0} (field : A → ℕ) (table more : List A) → column field (table ++ more) ≡ column field table ++ column field more
unfolding column
column_append field [] more = refl
column_append field (entry ∷ table) more = ap (λ (l : List ℕ). field entry ∷ l) (column_append field table more)

-- Where blockers stand in place of others, any part of them is read where it stands among them.
pub read_part : (old : ℕ) (first part rest : List Blocker) (room : BlockerRoom)
    → blockers_from (with_table old (first ++ part ++ rest) room) (length part) (length first) ≡ part
unfolding with_table
read_part old first part rest room =
    let all : List Blocker = first ++ part ++ rest in
    let after : BlockerRoom = each_table (λ field before. column field rest ++ behind old (column field all) before) room in
    ap (λ (new : BlockerRoom). blockers_from new (length part) (length first)) (tables_same _ _ room parts)
    ∙ behind_others first (each_table (λ field table. column field part ++ table) after) (length part)
    ∙ read_back part after
  where
    parts : (field : Blocker → ℕ) (before : List ℕ) → placed old (column field (first ++ part ++ rest)) before
        ≡ column field first ++ (column field part ++ (column field rest ++ behind old (column field (first ++ part ++ rest)) before))
    parts field before =
        let behind_all : List ℕ = behind old (column field (first ++ part ++ rest)) before in
        placed_behind old (column field (first ++ part ++ rest)) before
        ∙ ap (λ (new : List ℕ). new ++ behind_all)
        (column_append field (first ++ part) rest ∙ ap (λ (new : List ℕ). new ++ column field rest) (column_append field first part))
        ∙ append_assoc (column field first ++ column field part) (column field rest) behind_all
        ∙ append_assoc (column field first) (column field part) (column field rest ++ behind_all)

-- so all of them are
pub read_back_table : (table : List Blocker) (old : ℕ) (room : BlockerRoom) → blockers_from (with_table old table room) (length table) 0 ≡ table
read_back_table table old room =
    ap (λ (all : List Blocker). blockers_from (with_table old all room) (length table) 0) (sym (append-nil table))
    ∙ read_part old [] table [] room

-- a column in place of a whole table: its entries, and 0 after them
pub column_whole : {A : Type 0} (field : A → ℕ) (entries : List A) (old : ℕ) (before : List ℕ) → old ≡ length before
    → placed old (column field entries) before ≡ column field entries ++ replicate (length before - length entries) 0
column_whole field entries old before e =
    let long = column_length field entries in
    ap (λ (k : ℕ). placed k (column field entries) before) e
    ∙ placed_whole (column field entries) before
    ∙ ap (λ (n : ℕ). column field entries ++ replicate (length before - n) 0) long

-- a column from last to first is as long too
pub column_back_length : {A : Type 0} (field : A → ℕ) (entries : List A) → length (column_back field entries) ≡ length entries
unfolding column_back
column_back_length field [] = refl
column_back_length field (entry ∷ entries) = length-append (column_back field entries) (field entry ∷ []) ∙ omega (arith, column_back_length field entries)

-- as many pending cases are read as are asked for
pub pending_length : (room : WordRoom) (count : ℕ) → length (pending_first room count) ≡ count
unfolding pending_first
pending_length room zero = refl
pending_length room (suc count) = ap suc (pending_length room count)

-- pending cases at the front of two tables are read back
pub read_back_pending : (pending : List Pending) (cases symbols : List ℕ)
    → pending_first (word_room_of (column_back case_of pending ++ cases) (column_back symbol_of pending ++ symbols)) (length pending) ≡ pending
unfolding pending_first column_back
read_back_pending [] cases symbols = refl
read_back_pending (p ∷ pending) cases symbols =
    ap
    (λ (room : WordRoom). pending_first room (suc (length pending)))
    (ap (λ (front : List ℕ). word_room_of front ((column_back symbol_of pending ++ p.symbol ∷ []) ++ symbols)) (append_snoc (column_back case_of pending) p.case cases)
    ∙ ap (λ (front : List ℕ). word_room_of (column_back case_of pending ++ p.case ∷ cases) front) (append_snoc (column_back symbol_of pending) p.symbol symbols))
    ∙ rw (
      get_or_at (column_back case_of pending) p.case cases 0 (length pending) (column_back_length case_of pending),
      get_or_at (column_back symbol_of pending) p.symbol symbols 0 (length pending) (column_back_length symbol_of pending),
    )
    (ap (λ (rest : List Pending). p ∷ rest) (read_back_pending pending (p.case ∷ cases) (p.symbol ∷ symbols)))

-- so they are where they stand in place of others
pub read_back_placed : (pending : List Pending) (old : ℕ) (room : WordRoom) → pending_first (with_pending old pending room) (length pending) ≡ pending
unfolding with_pending placed
read_back_placed pending old room =
    let cases = column_back case_of pending in
    let symbols = column_back symbol_of pending in
    rw (
      append_assoc cases (replicate (old - length cases) 0) (drop (max old (length cases)) room.cases),
      append_assoc symbols (replicate (old - length symbols) 0) (drop (max old (length symbols)) room.symbols),
    )
    (read_back_pending pending _ _)

-- a column of the pending cases is the front of its table
pub cases_front : (room : WordRoom) (count : ℕ) → count ≤ length room.cases → column_back case_of (pending_first room count) ≡ take count room.cases
unfolding pending_first column_back
cases_front room zero h = refl
cases_front room (suc count) h =
    ap (λ (front : List ℕ). front ++ get_or room.cases count 0 ∷ []) (cases_front room count (omega arith)) ∙ sym (take-suc room.cases count 0 h)

pub symbols_front : (room : WordRoom) (count : ℕ) → count ≤ length room.symbols
    → column_back symbol_of (pending_first room count) ≡ take count room.symbols
unfolding pending_first column_back
symbols_front room zero h = refl
symbols_front room (suc count) h =
    ap (λ (front : List ℕ). front ++ get_or room.symbols count 0 ∷ []) (symbols_front room count (omega arith)) ∙ sym (take-suc room.symbols count 0 h)

-- a table's own front in its place changes nothing
pub placed_front : (count : ℕ) (before : List ℕ) → count ≤ length before → placed count (take count before) before ≡ before
unfolding placed
placed_front count before h =
    let l : length (take count before) ≡ count = length-take-le count before h in
    let none : count - count ≡ 0 = omega arith in
    let most : max count count ≡ count = omega arith in
    rw (l, none, most, append-nil) (take-append-drop count before)

-- nor do the pending cases that were read from there
pub own_pending : (room : WordRoom) (count : ℕ) → count ≤ length room.cases → count ≤ length room.symbols
    → with_pending count (pending_first room count) room ≡ room
unfolding with_pending
own_pending room count c s =
    rw (cases_front room count c, symbols_front room count s, placed_front count room.cases c, placed_front count room.symbols s)

-- without the first n entries: of two lists one after the other, and of 0 so many times
drop_append : (n : ℕ) (front rest : List ℕ) → drop n (front ++ rest) ≡ drop n front ++ drop (n - length front) rest
drop_append zero front rest = let e : 0 - length front ≡ 0 = omega arith in rw e
drop_append (suc n) [] rest = let e : suc n - 0 ≡ suc n = omega arith in rw e
drop_append (suc n) (x ∷ front) rest = let e : suc n - suc (length front) ≡ n - length front = omega arith in rw e (drop_append n front rest)

drop_replicate : (n m : ℕ) → drop n (replicate {A = ℕ} m 0) ≡ replicate (m - n) 0
drop_replicate zero m = let e : m - 0 ≡ m = omega arith in rw e
drop_replicate (suc n) zero = let e : 0 - suc n ≡ 0 = omega arith in rw e
drop_replicate (suc n) (suc m) = let e : suc m - suc n ≡ m - n = omega arith in rw e (drop_replicate n m)

-- how many places are free, and how many lie in front of what is left as it was, after two changes
grown_to : (a b : ℕ) → a + (b - a) ≡ max b a
grown_to a b = omega arith

above_both : (a b n : ℕ) → a ≤ n → max b a + (n - max b a) ≡ max b n
above_both a b n h = omega arith

taken_in_two : (a b n : ℕ) → a ≤ n → b - a - (n - a) ≡ b - n
taken_in_two a b n h = omega arith

free_in_two : (old between new : ℕ) → between - new + (old - max between new) ≡ max old between - new
free_in_two old between new = omega arith

max_regroup : (a b c : ℕ) → max a (max b c) ≡ max (max a b) c
max_regroup a b c = omega arith

-- behind the new entries: 0 in the places that became free, and what stood there before
pub drop_placed : (n old : ℕ) (new before : List ℕ) → length new ≤ n → drop n (placed old new before) ≡ replicate (old - n) 0 ++ drop (max old n) before
unfolding placed
drop_placed n old new before h =
    rw (
      drop_append n (new ++ replicate (old - length new) 0) (drop (max old (length new)) before),
      drop_append n new (replicate (old - length new) 0),
      drop_of_length-le new h,
      drop_replicate,
      drop-drop,
      length-append,
      length-replicate,
      taken_in_two (length new) old n h,
      grown_to (length new) old,
      above_both (length new) old n h,
    )

-- free places next to free places
free_joined : (new : List ℕ) (a b : ℕ) (behind : List ℕ)
    → new ++ replicate a 0 ++ (replicate b 0 ++ behind) ≡ new ++ replicate (a + b) 0 ++ behind
free_joined new a b behind =
    rw (← append_assoc (new ++ replicate a 0) (replicate b 0) behind, append_assoc new (replicate a 0) (replicate b 0), replicate-append-replicate)

-- one change after another is one change, where the second's old places hold all that the first put there
pub placed_placed : (old between : ℕ) (first second before : List ℕ) → length first ≤ between
    → placed between second (placed old first before) ≡ placed (max old between) second before
unfolding placed
placed_placed old between first second before h =
    let size : ℕ = length second in
    let most : length first ≤ max between size = omega arith in
    ap (λ (behind : List ℕ). second ++ replicate (between - size) 0 ++ behind) (drop_placed (max between size) old first before most)
    ∙ free_joined second (between - size) (old - max between size) (drop (max old (max between size)) before)
    ∙ rw (free_in_two old between size, max_regroup old between size)

-- among the same places: the second change takes the first's place
pub placed_again : (old : ℕ) (first second before : List ℕ) → length first ≤ old → placed (length first) second (placed old first before) ≡ placed old second before
placed_again old first second before h =
    let most : max old (length first) ≡ old = omega arith in
    placed_placed old (length first) first second before (omega arith) ∙ ap (λ (n : ℕ). placed n second before) most

-- so it is of the word room, whether cases become pending or a word stands there
module _ (old size : ℕ) (first second : List Pending) (word : List ℕ) (room : WordRoom) (e : length first ≡ size) (l : size ≤ old) where
  again : (field : Pending → ℕ) (new before : List ℕ) → placed size new (placed old (column_back field first) before) ≡ placed old new before
  again field new before =
      let long = column_back_length field first ∙ e in
      ap (λ (k : ℕ). placed k new (placed old (column_back field first) before)) (sym long)
      ∙ placed_again old (column_back field first) new before (omega (arith, long))

  pub pending_again : with_pending size second (with_pending old first room) ≡ with_pending old second room
  unfolding with_pending
  pending_again = rw (again case_of (column_back case_of second) room.cases, again symbol_of (column_back symbol_of second) room.symbols)

  pub word_again : with_word size word (with_pending old first room) ≡ with_word old word room
  unfolding with_word with_pending
  word_again = rw (again case_of [] room.cases, again symbol_of word room.symbols)

-- what stands at a place is the first of what is left from there
first_left : (i : ℕ) (l : List ℕ) → get_or (drop i l) 0 0 ≡ get_or l i 0
first_left i l = let at : i + 0 ≡ i = omega arith in get_or-drop i l 0 0 ∙ ap (λ (k : ℕ). get_or l k 0) at

-- what stands at a place behind the new entries: 0 where it became free, else what stood there before
behind_at : (i old : ℕ) (new before : List ℕ) → length new ≤ i → get_or (placed old new before) i 0 ≡ get_or (replicate (old - i) 0 ++ drop (max old i) before) 0 0
behind_at i old new before l = sym (first_left i (placed old new before)) ∙ ap (λ (l : List ℕ). get_or l 0 0) (drop_placed i old new before l)

free_at : (i old : ℕ) (new before : List ℕ) → length new ≤ i → i < old → get_or (placed old new before) i 0 ≡ 0
free_at i old new before l h =
    let some : old - i ≡ suc (old - suc i) = omega arith in
    behind_at i old new before l ∙ rw some

rest_at : (i old : ℕ) (new before : List ℕ) → length new ≤ i → old ≤ i → get_or (placed old new before) i 0 ≡ get_or before i 0
rest_at i old new before l h =
    let none : old - i ≡ 0 = omega arith in
    let most : max old i ≡ i = omega arith in
    behind_at i old new before l ∙ rw (none, most) (first_left i before)

-- so a change leaves 0 in each place that became free, and the rest
pub placed_changed : (old : ℕ) (new before : List ℕ) {size : ℕ} → length new ≡ size → old ≤ length before → size ≤ length before
    → Changed old size before (placed old new before)
placed_changed old new before long l h =
    record {
      long = placed_length old new before l (omega arith);
      freed = λ i free used. free_at i old new before (omega arith) used;
      rest = λ i past free. rest_at i old new before (omega arith) past;
    }
