-- What C is handed: the numbers that each public operation sets out its answer in, and its lent lists when it returns.
use Rattle.std.specs.Prelude.{List, ℕ, ℤ}
use Rattle.build.specs.Fills as fills
use Rattle.string_clip.specs.Run as clip
use Rattle.string_slice.specs.Run as slice
use Rattle.string_split.specs.Run as split
use Rattle.segm.specs.Segments.{width}
use Rattle.text.specs.Storing as reading
use Rattle.text_forms.specs.declared.Form.{Form}
use Rattle.stored_text.specs.Outcome as writer
use Rattle.c_structs.specs.declared.Fills.{Fills}
use Rattle.c_structs.specs.declared.Clip.{Clip}
use Rattle.c_structs.specs.declared.Slice.{Slice}
use Rattle.c_structs.specs.declared.Split.{Split}
use Rattle.c_structs.specs.declared.Read.{Read}
use Rattle.c_structs.specs.declared.Write.{Write}
use Rattle.c_structs.specs.Structs.{fills_struct, clip_struct, slice_struct, split_struct, read_struct, write_struct}

-- ---- fills
-- what a call of `overlay_fills` returns, and the lent list then
pub record Returned : Type 0 where
  pub answer : Fills
  pub list : List ℕ

abbrev pub returned : Fills → List ℕ → Returned
returned answer list = record { answer = answer; list = list }

-- what `overlay_fills` promises
unfoldable pub fills_numbers : List ℤ → ℤ → List ℕ → Returned
fills_numbers numbers rule lent = let o = fills.fills_outcome numbers rule lent in returned (fills_struct o.numbers) o.list

-- ---- clip
-- its lent lists
abbrev pub clip_lists : List ℤ → List ℕ → clip.Lists
clip_lists = clip.lists

-- what a call of `overlay_clip` returns, and the lent lists then
pub record ReturnedClip : Type 0 where
  pub answer : Clip
  pub lists : clip.Lists

abbrev pub returned_clip : Clip → clip.Lists → ReturnedClip
returned_clip answer ls = record { answer = answer; lists = ls }

-- what `overlay_clip` promises
unfoldable pub clip_numbers : List ℤ → (rule invert boundary : ℤ) → clip.Lists → ReturnedClip
clip_numbers numbers rule invert boundary ls = let o = clip.clip_outcome numbers rule invert boundary ls in returned_clip (clip_struct o.numbers) o.lists

-- ---- slice
-- its lent lists
abbrev pub slice_lists : List ℤ → List ℕ → List ℕ → slice.Lists
slice_lists = slice.lists

-- what a call of `overlay_slice` returns, and the lent lists then
pub record ReturnedSlice : Type 0 where
  pub answer : Slice
  pub lists : slice.Lists

abbrev pub returned_slice : Slice → slice.Lists → ReturnedSlice
returned_slice answer ls = record { answer = answer; lists = ls }

-- what `overlay_slice` promises
unfoldable pub slice_numbers : List ℤ → (rule direction : ℤ) → ℕ → slice.Lists → ReturnedSlice
slice_numbers numbers rule direction least ls = let o = slice.slice_outcome numbers rule direction least ls in returned_slice (slice_struct o.numbers) o.lists

-- ---- split
-- its lent lists
abbrev pub split_lists : List ℤ → List ℕ → split.Lists
split_lists = split.lists

-- what a call of `overlay_split` returns, and the lent lists then
pub record ReturnedSplit : Type 0 where
  pub answer : Split
  pub lists : split.Lists

abbrev pub returned_split : Split → split.Lists → ReturnedSplit
returned_split answer ls = record { answer = answer; lists = ls }

-- what `overlay_split` promises
unfoldable pub split_numbers : List ℤ → ℕ → split.Lists → ReturnedSplit
split_numbers points least ls = let o = split.split_outcome points least ls in returned_split (split_struct o.numbers) o.lists

-- ---- read
-- what a call of `overlay_read` returns, and the lent list then
pub record ReturnedRead : Type 0 where
  pub answer : Read
  pub list : List ℤ

abbrev pub returned_read : Read → List ℤ → ReturnedRead
returned_read answer list = record { answer = answer; list = list }

-- what `overlay_read` promises
unfoldable pub read_numbers : List ℕ → List ℤ → ReturnedRead
read_numbers text lent = let o = reading.read_outcome width text lent in returned_read (read_struct o.numbers) o.list

-- ---- write, move
-- what a call of these returns, and the lent list then
pub record ReturnedWrite : Type 0 where
  pub answer : Write
  pub list : List ℕ

abbrev pub returned_write : Write → List ℕ → ReturnedWrite
returned_write answer list = record { answer = answer; list = list }

-- an outcome, with its answer in C's struct
abbrev pub write_returned : writer.Outcome → ReturnedWrite
write_returned o = returned_write (write_struct o.numbers) o.list

-- what `overlay_write` promises
unfoldable pub write_numbers : List ℤ → (rule invert boundary : ℤ) → List ℕ → ReturnedWrite
write_numbers numbers rule invert boundary lent = write_returned (writer.write_outcome numbers (record { rule = rule; invert = invert; boundary = boundary }) lent)

-- what `overlay_old_to_new` (Old, New) and `overlay_new_to_old` (New, Old) promise
unfoldable pub move_numbers : (from to : Form) → List ℕ → List ℕ → ReturnedWrite
move_numbers from to text lent = write_returned (writer.move_outcome from to text lent)
