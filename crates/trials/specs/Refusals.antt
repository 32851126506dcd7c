-- A refusal writes nothing and counts nothing, whatever refuses: document 01's "A refusal returns number and place, all counts 0, and writes to no lent list", of
-- every run. Each answer is a refusal or it is not; of one that is, this is all that the outcome holds.
use Rattle.std.specs.Prelude.{◌≡◌, List, ℕ, ℤ, Err}
use Rattle.refusal.specs.declared.Refusal.{Refusal}
use Rattle.build.specs.Fills as fills
use Rattle.string_clip.specs.Run as clip
use Rattle.string_slice.specs.Run as slice
use Rattle.string_split.specs.Run as split
use Rattle.text.specs.Storing as text
use Rattle.text.specs.declared.Choices.{Choices}
use Rattle.text_forms.specs.declared.Form.{Form}
use Rattle.stored_text.specs.Outcome as writer

pub record RefusalsWriteNothing : Type 0 where
  pub of_fills : (numbers : List ℤ) (rule : ℤ) (lent : List ℕ) (r : Refusal)
      → (let o = fills.fills_outcome numbers rule lent in o.answer ≡ Err r → o ≡ fills.outcome (Err r) lent)
  pub of_clip : (numbers : List ℤ) (rule invert boundary : ℤ) (ls : clip.Lists) (r : Refusal)
      → (let o = clip.clip_outcome numbers rule invert boundary ls in o.answer ≡ Err r → o ≡ clip.outcome (Err r) ls)
  pub of_slice : (numbers : List ℤ) (rule direction : ℤ) (least : ℕ) (ls : slice.Lists) (r : Refusal)
      → (let o = slice.slice_outcome numbers rule direction least ls in o.answer ≡ Err r → o ≡ slice.outcome (Err r) ls)
  pub of_split : (points : List ℤ) (least : ℕ) (ls : split.Lists) (r : Refusal)
      → (let o = split.split_outcome points least ls in o.answer ≡ Err r → o ≡ split.outcome (Err r) ls)
  pub of_read : (width : ℕ) (bytes : List ℕ) (lent : List ℤ) (r : Refusal)
      → (let o = text.read_outcome width bytes lent in o.answer ≡ Err r → o ≡ text.outcome (Err r) lent)
  pub of_write : (numbers : List ℤ) (c : Choices) (lent : List ℕ) (r : Refusal)
      → (let o = writer.write_outcome numbers c lent in o.answer ≡ Err r → o ≡ writer.outcome (Err r) lent)
  pub of_move : (from to : Form) (bytes lent : List ℕ) (r : Refusal)
      → (let o = writer.move_outcome from to bytes lent in o.answer ≡ Err r → o ≡ writer.outcome (Err r) lent)
