-- Without those of level 0, a table in which leavers sank to level 0 is that of 01. Assumes nothing.
use Prim.Native.Nat.{ℕ}
use mathlib.Core.Path.{◌≡◌, refl, sym, ap, ap₂, ◌∙◌}
use mathlib.Core.Bool.{Bool, true, false}
use mathlib.Core.List.{List, [], ◌∷◌, ◌++◌, append-nil}
use lib.Dec.{leb, ltb}
use Rattle.lists.specs.Tests.{◌and◌, neg, choose}
use Rattle.lists.specs.Lists.{keep}
use Rattle.lists.proofs.Tests.{choose_true, choose_false}
use Rattle.lists.proofs.Lists.{keep_append}
use Rattle.masks.specs.Sets.{subset}
use Rattle.machine.specs.System.{System}
use Rattle.machine.specs.Machine.{Blocker, leaves, staying, rises, risen, frame}
use Rattle.indexing.specs.Index.{sunk_level}
use Rattle.rising.proofs.Along.{along, along_rises, along_stays}

-- a blocker once Y has risen, and each of a list
abbrev pub sink : Blocker → Blocker → Blocker
sink Y b = record { mask = b.mask; level = sunk_level Y.mask Y.level b.mask b.level; entered = b.entered }

unfoldable pub sunken : Blocker → List Blocker → List Blocker
sunken Y [] = []
sunken Y (b ∷ table) = sink Y b ∷ sunken Y table

-- without those of level 0, what sank has left
frame_sunken : (Y : Blocker) (table : List Blocker) → frame 0 (sunken Y table) ≡ staying Y (frame 0 table)
unfolding frame staying keep sunken leaves sunk_level choose neg
frame_sunken Y [] = refl
frame_sunken Y (b ∷ table) = at (leb b.level Y.level and subset b.mask Y.mask) refl (ltb 0 b.level) refl (frame_sunken Y table)
  where
    at : (gone : Bool) → leb b.level Y.level and subset b.mask Y.mask ≡ gone → (up : Bool) → ltb 0 b.level ≡ up
        → frame 0 (sunken Y table) ≡ staying Y (frame 0 table)
        → frame 0 (sunken Y (b ∷ table)) ≡ staying Y (frame 0 (b ∷ table))
    at true e true u rec = rw (e, u, e) rec
    at true e false u rec = rw (e, u) rec
    at false e true u rec = rw (e, u, e, rec)
    at false e false u rec = rw (e, u) rec

-- the walk of 01 over the table without level 0: one that does not rise is passed, whether it stands or has left
module _ (S : System) (j : ℕ) (front : List Blocker) (b : Blocker) (rest : List Blocker) where
  frame_apart : frame 0 (front ++ b ∷ rest) ≡ frame 0 front ++ frame 0 (b ∷ rest)
  unfolding frame
  frame_apart = keep_append (λ blocker. ltb 0 blocker.level) front (b ∷ rest)

  frame_stands : ltb 0 b.level ≡ true → frame 0 (b ∷ rest) ≡ b ∷ frame 0 rest
  unfolding frame keep
  frame_stands u = choose_true _ _ u

  frame_left : ltb 0 b.level ≡ false → frame 0 (b ∷ rest) ≡ frame 0 rest
  unfolding frame keep
  frame_left u = choose_false _ _ u

  pub frame_last : ltb 0 b.level ≡ true → frame 0 (front ++ b ∷ []) ≡ frame 0 front ++ b ∷ []
  unfolding frame keep
  frame_last u =
      keep_append (λ blocker. ltb 0 blocker.level) front (b ∷ [])
      ∙ ap (λ (last : List Blocker). keep (λ blocker. ltb 0 blocker.level) front ++ last) (choose_true _ _ u)

  frame_none : ltb 0 b.level ≡ false → frame 0 (front ++ b ∷ []) ≡ frame 0 front
  unfolding frame keep
  frame_none u =
      keep_append (λ blocker. ltb 0 blocker.level) front (b ∷ [])
      ∙ ap (λ (last : List Blocker). keep (λ blocker. ltb 0 blocker.level) front ++ last) (choose_false _ _ u)
      ∙ append-nil _

  pub pass_one : rises S (frame 0 (front ++ b ∷ rest)) j b ≡ false
      → along S j (frame 0 front) (frame 0 (b ∷ rest)) ≡ along S j (frame 0 (front ++ b ∷ [])) (frame 0 rest)
  pass_one f = at (ltb 0 b.level) refl
    where
      at : (u : Bool) → ltb 0 b.level ≡ u
          → along S j (frame 0 front) (frame 0 (b ∷ rest)) ≡ along S j (frame 0 (front ++ b ∷ [])) (frame 0 rest)
      at true u =
          ap (λ (ahead : List Blocker). along S j (frame 0 front) ahead) (frame_stands u)
          ∙ along_stays S j (frame 0 front) b (frame 0 rest)
          (ap (λ (table : List Blocker). rises S table j b)
          (ap (λ (ahead : List Blocker). frame 0 front ++ ahead) (sym (frame_stands u)) ∙ sym frame_apart) ∙ f)
          ∙ ap (λ (passed : List Blocker). along S j passed (frame 0 rest)) (sym (frame_last u))
      at false u = ap₂ (λ (passed ahead : List Blocker). along S j passed ahead) (sym (frame_none u)) (frame_left u)

  pub rise_one : ltb 0 b.level ≡ true → rises S (frame 0 (front ++ b ∷ rest)) j b ≡ true
      → along S j (frame 0 front) (frame 0 (b ∷ rest))
      ≡ along S j (frame 0 (sunken (risen b) front) ++ risen b ∷ []) (frame 0 (sunken (risen b) rest))
  rise_one u t =
      ap (λ (ahead : List Blocker). along S j (frame 0 front) ahead) (frame_stands u)
      ∙ along_rises S j (frame 0 front) b (frame 0 rest)
      (ap (λ (table : List Blocker). rises S table j b)
      (ap (λ (ahead : List Blocker). frame 0 front ++ ahead) (sym (frame_stands u)) ∙ sym frame_apart) ∙ t)
      ∙ ap₂ (λ (passed ahead : List Blocker). along S j (passed ++ risen b ∷ []) ahead)
      (sym (frame_sunken (risen b) front)) (sym (frame_sunken (risen b) rest))
