-- What C is handed, by worked cases: of each exported function a refusal and an answer, with no two of its numbers the same where the case allows it.
use Rattle.std.specs.Prelude.{◌≡◌, List, [], ◌∷◌, ◌++◌, drop, ℤ, pos, negsuc}
use Rattle.decimal.proofs.Spelled.{bytes}
use Rattle.segm.specs.CaseA.{A}
use Rattle.text_forms.specs.declared.Form.TheVariants.{Old, New}
use Rattle.overlay.specs.Numbers.{returned, fills_numbers, clip_lists, returned_clip, clip_numbers, slice_lists, returned_slice, slice_numbers, split_lists, returned_split, split_numbers, returned_read, read_numbers, returned_write, write_numbers, move_numbers}
use Rattle.trials.specs.Trials.{line, held, held_numbers}

-- two lines, the second with line bits that there are not
abbrev pub bad_bits : List ℤ
bad_bits = line (pos 0) (pos 0) (pos 5) (pos 0) (pos 3) ++ line (pos 5) (pos 0) (pos 7) (pos 0) (pos 4)

-- the same with good ones: a path there and on, and one back
abbrev pub good_bits : List ℤ
good_bits = line (pos 0) (pos 0) (pos 5) (pos 0) (pos 3) ++ line (pos 5) (pos 0) (pos 7) (pos 0) (pos 1)

pub record Exported : Type 0 where
  pub fills_refused : fills_numbers bad_bits (pos 1) (held 2) ≡ returned (record { number = 6; place = 1; count = 0 }) (held 2)
  pub fills_done : fills_numbers good_bits (pos 1) (held 3) ≡ returned (record { number = 0; place = 0; count = 2 }) (12 ∷ 4 ∷ 103 ∷ [])
  pub clip_refused : (let ls = clip_lists (held_numbers 16) (held 4) in clip_numbers bad_bits (pos 1) (pos 1) (pos 1) ls
      ≡ returned_clip (record { number = 6; place = 1; paths = 0; points = 0; steps = 0; travel = 0 }) ls)
  pub clip_done : clip_numbers good_bits (pos 1) (pos 1) (pos 1) (clip_lists (held_numbers 16) (held 4))
      ≡ returned_clip (record { number = 0; place = 0; paths = 2; points = 5; steps = 3; travel = 12 })
      (clip_lists (pos 0 ∷ pos 0 ∷ pos 5 ∷ pos 0 ∷ pos 7 ∷ pos 0 ∷ pos 5 ∷ pos 0 ∷ pos 0 ∷ pos 0 ∷ drop 10 (held_numbers 16)) (3 ∷ 2 ∷ drop 2 (held 4)))
  pub slice_refused : (let ls = slice_lists (held_numbers 8) (held 4) (held 4) in slice_numbers bad_bits (pos 1) (pos 0) 0 ls ≡ returned_slice (record { number = 6; place = 1; contours = 0; points = 0 }) ls)
  pub slice_done : slice_numbers A (pos 1) (pos 0) 0 (slice_lists (held_numbers 36) (held 18) (held 18))
      ≡ returned_slice (record { number = 0; place = 0; contours = 2; points = 8 })
      (slice_lists (pos 10 ∷ pos 0 ∷ pos 10 ∷ pos 5 ∷ pos 0 ∷ pos 5 ∷ pos 0 ∷ pos 0 ∷ pos 10 ∷ pos 5 ∷ pos 10 ∷ pos 10 ∷ pos 0 ∷ pos 10 ∷ pos 0 ∷ pos 5 ∷ drop 16 (held_numbers 36))
      (4 ∷ 4 ∷ drop 2 (held 18)) (0 ∷ 0 ∷ drop 2 (held 18)))
  pub split_refused : (let ls = split_lists (held_numbers 4) (held 2) in split_numbers (pos 0 ∷ pos 0 ∷ pos 0 ∷ pos 16777217 ∷ []) 0 ls ≡ returned_split (record { number = 3; place = 1; loops = 0; points = 0 }) ls)
  pub split_done : split_numbers (pos 1 ∷ pos 1 ∷ pos 2 ∷ pos 1 ∷ pos 2 ∷ pos 3 ∷ pos 1 ∷ pos 1 ∷ []) 0 (split_lists (held_numbers 8) (held 4))
      ≡ returned_split (record { number = 0; place = 0; loops = 1; points = 3 }) (split_lists (pos 2 ∷ pos 1 ∷ pos 2 ∷ pos 3 ∷ pos 1 ∷ pos 1 ∷ drop 6 (held_numbers 8)) (3 ∷ drop 1 (held 4)))
  -- a bad line before a list too short
  pub read_refused : read_numbers (bytes "4,-1,0\n0,0,2,0,0,3,x\n") [] ≡ returned_read (record { number = 1; place = 2; count = 0; rule = pos 0; invert = pos 0; boundary = pos 0 }) []
  pub read_done : read_numbers (bytes "4,-1,0\n0,0,2,0,0,3,8\n") (held_numbers 9)
      ≡ returned_read (record { number = 0; place = 0; count = 7; rule = pos 4; invert = negsuc 0; boundary = pos 0 })
      (pos 0 ∷ pos 0 ∷ pos 2 ∷ pos 0 ∷ pos 0 ∷ pos 3 ∷ pos 8 ∷ drop 7 (held_numbers 9))
  pub write_refused : write_numbers bad_bits (pos 1) (pos 0) (pos 1) [] ≡ returned_write (record { number = 6; place = 1; count = 0 }) []
  pub write_done : write_numbers good_bits (pos 3) (pos 0) (pos 1) (held 35) ≡ returned_write (record { number = 0; place = 0; count = 34 }) (bytes "3,0,1\n0,0,5,0,0,3,0\n5,0,7,0,0,1,0\n" ++ drop 34 (held 35))
  -- 14 before a list too short
  pub move_refused : move_numbers New Old (bytes "1,0,1\n0,0,5,0,0,3,0\n5,0,7,0,0,1,4\n") [] ≡ returned_write (record { number = 14; place = 1; count = 0 }) []
  pub moved_up_lem : move_numbers Old New (bytes "1,0,1\n0,0,5,0,0,3\n") (held 22) ≡ returned_write (record { number = 0; place = 0; count = 20 }) (bytes "1,0,1\n0,0,5,0,0,3,0\n" ++ drop 20 (held 22))
  pub moved_down_lem : move_numbers New Old (bytes "1,0,1\n0,0,5,0,0,3,0\n") (held 22) ≡ returned_write (record { number = 0; place = 0; count = 18 }) (bytes "1,0,1\n0,0,5,0,0,3\n" ++ drop 18 (held 22))
