-- What was read of an input, and stands in front of the bytes. Assumes nothing.
use Prim.Native.Nat.{ℕ, ◌+◌, ◌-◌, ◌≤◌}
use mathlib.Core.Path.{◌≡◌, ap, sym, subst, ◌∙◌}
use mathlib.Core.List.{List, ◌++◌}
use lib.ListN.{length, take, drop}
use lib.Seq.{take-add, take-append-le}
use borrow.Rule.Slice.PartMut.{put_mid, post_of, take_put}
use Rattle.std.proofs.Common.{Option, drop_at, length-take-le}
use Rattle.std.specs.Io.KnownBytes.{Consumes, Keeps}
use Rattle.std.proofs.KnownBytes.{Consumes-trans, Consumes-kept}

module _ (bytes part : List ℕ) (size : ℕ) (within : size ≤ length bytes) where
  -- the bytes after a read into those behind the first `size`
  abbrev filled : List ℕ
  filled = put_mid size (length bytes - size) bytes part

  -- the first `size` stay, and the part follows
  pub front : (more : ℕ) → more ≤ length part → take (size + more) filled ≡ take size bytes ++ take more part
  front more fits =
      take-add size more filled
      ∙ ap (λ (l : List ℕ). l ++ take more (drop size filled)) (take_put size (length bytes - size) bytes part within)
      ∙ ap
      (λ (l : List ℕ). take size bytes ++ take more l)
      (drop_at (take size bytes) (part ++ post_of size (length bytes - size) bytes) size (length-take-le size bytes within))
      ∙ ap (λ (l : List ℕ). take size bytes ++ l) (take-append-le more part (post_of size (length bytes - size) bytes) fits)

  module _ (before now after : Option (List ℕ)) (read : Consumes before now (take size bytes)) where
    -- a read that gives bytes
    pub reads_on : (more : ℕ) → more ≤ length part → Consumes now after (take more part) → Consumes before after (take (size + more) filled)
    reads_on more fits next = subst (Consumes before after) (sym (front more fits)) (Consumes-trans _ _ _ _ _ read next)

    -- a read that was interrupted
    pub stays_read : Keeps now after → Consumes before after (take size filled)
    stays_read kept = subst (Consumes before after) (sym (take_put size (length bytes - size) bytes part within)) (Consumes-kept _ _ _ _ read kept)
