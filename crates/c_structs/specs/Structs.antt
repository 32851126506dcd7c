-- What C is handed for the answer of each run: document 01's number, place and values, as the run sets them out (`told`), in a struct.
use Rattle.std.specs.Prelude.{ℕ, Result}
use Rattle.refusal.specs.declared.Refusal.{Refusal}
use Rattle.build.specs.Fills as fills
use Rattle.clip_paths.specs.declared.Totals.{Totals}
use Rattle.string_clip.specs.Run as clip
use Rattle.slice_cut.specs.declared.Contours.{Contours}
use Rattle.string_slice.specs.Run as slice
use Rattle.split_loops.specs.declared.buffer.LoopTotals.{LoopTotals}
use Rattle.string_split.specs.Run as split
use Rattle.text.specs.declared.Reading.{Reading}
use Rattle.text.specs.Storing as reading
use Rattle.stored_text.specs.Outcome as writer
use Rattle.c_structs.specs.declared.Fills.{Fills}
use Rattle.c_structs.specs.declared.Clip.{Clip}
use Rattle.c_structs.specs.declared.Slice.{Slice}
use Rattle.c_structs.specs.declared.Split.{Split}
use Rattle.c_structs.specs.declared.Read.{Read}
use Rattle.c_structs.specs.declared.Write.{Write}

-- ---- fills
-- the answer of a fills run as C's struct
abbrev pub fills_struct : fills.Told → Fills
fills_struct t = record { number = t.number; place = t.place; count = t.count }

abbrev pub fills_of : Result ℕ Refusal → Fills
fills_of answer = fills_struct (fills.told answer)

-- ---- clip
-- the answer of a clip run as C's struct
abbrev pub clip_struct : clip.Told → Clip
clip_struct t =
    record { number = t.number; place = t.place; paths = t.totals.paths; points = t.totals.points; steps = t.totals.steps; travel = t.totals.travel }

abbrev pub clip_of : Result Totals Refusal → Clip
clip_of answer = clip_struct (clip.told answer)

-- ---- slice
-- the answer of a slice run as C's struct
abbrev pub slice_struct : slice.Told → Slice
slice_struct t = record { number = t.number; place = t.place; contours = t.contours; points = t.points }

abbrev pub slice_of : Result Contours Refusal → Slice
slice_of answer = slice_struct (slice.told answer)

-- ---- split
-- the answer of a split run as C's struct
abbrev pub split_struct : split.Told → Split
split_struct t = record { number = t.number; place = t.place; loops = t.loops; points = t.points }

abbrev pub split_of : Result LoopTotals Refusal → Split
split_of answer = split_struct (split.told answer)

-- ---- read
-- the answer of `read` as C's struct
abbrev pub read_struct : reading.Told → Read
read_struct t = record { number = t.number; place = t.place; count = t.count; rule = t.rule; invert = t.invert; boundary = t.boundary }

abbrev pub read_of : Result Reading Refusal → Read
read_of answer = read_struct (reading.told answer)

-- ---- write, move
-- the answer of the writer or the mover as C's struct
abbrev pub write_struct : writer.Told → Write
write_struct t = record { number = t.number; place = t.place; count = t.count }

abbrev pub write_of : Result ℕ Refusal → Write
write_of answer = write_struct (writer.told answer)
