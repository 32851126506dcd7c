-- The loop of a path: what was left and what is to be left are the path's moves.
use mathlib.Core.Path.{◌≡◌, refl, sym, ap, subst, ◌∙◌}
use mathlib.Core.List.{List, [], ◌∷◌, ◌++◌, append-nil}
use mathlib.Core.Bool.{Bool}
use native.Mathlib.Omega.{arith}
use Prim.Native.Nat.{ℕ, ◌+◌, ◌*◌, ◌<◌, ◌≤◌}
use lib.ListN.{length, set, length-set, length-append}
use lib.Seq.{append_snoc}
use Rattle.std.specs.Prelude.{Some, None}
use Rattle.lists.specs.Written.{written}
use Rattle.lists.proofs.Written.{written_more}
use Rattle.moves.specs.Moves.{bits_remaining}
use Rattle.moves.specs.ByEnd.{NextEnd, move_of, Graph}
use Rattle.moves.proofs.Moves.{length_taken, bits_few}
use Rattle.clip_walk.specs.Flat.{next_end, taken_by, moves_on, bits_after, NodesKnown}
use Rattle.clip_walk.proofs.Flat.{next_below, moves_on_lem, bits_after_lem, follow_few}

length-taken_by : (out : Bool) (bits : List ℕ) (n : NextEnd) → length (taken_by out bits n) ≡ length bits
length-taken_by out bits None = refl
length-taken_by out bits (Some e) = length_taken bits (move_of (length bits) out e)

module _ (g : Graph) (out : Bool) (first : ℕ) (bits₀ moves₀ : List ℕ) where
  pub record Following (bits moves : List ℕ) (n : ℕ) (next : NextEnd) : Type 0 where
    pub done : List ℕ
    pub number : n ≡ length done
    pub room : length moves ≡ length moves₀
    pub list : moves ≡ written done moves₀
    pub as_many : length bits ≡ length bits₀
    pub all : done ++ moves_on g out bits next ≡ moves_on g out bits₀ (Some first)
    pub after : bits_after g out bits next ≡ bits_after g out bits₀ (Some first)
    pub below : (e : ℕ) → next ≡ Some e → e < 2 * length bits₀

  pub begin : first < 2 * length bits₀ → Following bits₀ moves₀ 0 (Some first)
  unfolding written
  begin h = record {
    done = [];
    number = refl;
    room = refl;
    list = refl;
    as_many = refl;
    all = refl;
    after = refl;
    below = λ e q. let f : first ≡ e = cc in omega arith;
  }

  -- what a call of `follow` needs
  module _ (known : NodesKnown (length bits₀) g) (room : bits_remaining bits₀ < length moves₀) where
    -- one turn, which leaves end e
    module _ {bits moves : List ℕ} {n : ℕ} {next : NextEnd} (w : Following bits moves n next) {e : ℕ} (is : next ≡ Some e) where
      here : moves_on g out bits next ≡ e ∷ moves_on g out (taken_by out bits (next_end g out bits e)) (next_end g out bits e)
      here = ap (moves_on g out bits) is ∙ moves_on_lem g out e bits

      few : n ≤ bits_remaining bits₀
      unfolding moves_on
      few = omega (arith, w.number, ap length w.all, length-append w.done (moves_on g out bits next), ap length here, follow_few g out (bits_remaining bits₀) first bits₀)

      pub inside : n < length moves
      inside = omega (arith, few, w.room, room)

      pub number_few : n ≤ 2048
      number_few = omega (arith, few, bits_few bits₀, known.few)

      pub known_now : NodesKnown (length bits) g
      known_now = subst (λ m. NodesKnown m g) (sym w.as_many) known

      pub below_now : e < 2 * length bits
      below_now = omega (arith, w.below e is, w.as_many)

      -- and what a call of `go_on` answers
      module _ {next₁ : NextEnd} {bits₁ : List ℕ} (q : next₁ ≡ next_end g out bits e) (r : bits₁ ≡ taken_by out bits next₁) where
        rest : moves_on g out bits next ≡ e ∷ moves_on g out bits₁ next₁
        rest = here ∙ ap (λ (n : NextEnd). e ∷ moves_on g out (taken_by out bits n) n) (sym q) ∙ ap (λ (b : List ℕ). e ∷ moves_on g out b next₁) (sym r)

        pub fewer : length (moves_on g out bits₁ next₁) < length (moves_on g out bits next)
        fewer = omega (arith, ap length rest)

        pub more : Following bits₁ (set moves n e) (n + 1) next₁
        more = record {
          done = w.done ++ (e ∷ []);
          number = omega (arith, w.number, length-append w.done (e ∷ []));
          room = length-set moves n e ∙ w.room;
          list = ap (λ (t : List ℕ). set t n e) w.list ∙ written_more w.done moves₀ n e w.number (omega (arith, inside, w.room));
          as_many = ap length r ∙ length-taken_by out bits next₁ ∙ w.as_many;
          all = append_snoc w.done e _ ∙ ap (w.done ++◌) (sym rest) ∙ w.all;
          after =
              ap (λ (b : List ℕ). bits_after g out b next₁) r ∙ ap (λ (n : NextEnd). bits_after g out (taken_by out bits n) n) q
              ∙ sym (ap (bits_after g out bits) is ∙ bits_after_lem g out e bits) ∙ w.after;
          below = λ h t. omega (arith, next_below g out bits e h known_now below_now (sym q ∙ t), w.as_many);
        }

  -- at the end all were left
  module _ {bits moves : List ℕ} {n : ℕ} {next : NextEnd} (w : Following bits moves n next) (is : next ≡ None) where
    whole : w.done ≡ moves_on g out bits₀ (Some first)
    unfolding moves_on
    whole = sym (append-nil w.done) ∙ ap (λ (n : NextEnd). w.done ++ moves_on g out bits n) (sym is) ∙ w.all

    pub number_is : n ≡ length (moves_on g out bits₀ (Some first))
    number_is = w.number ∙ ap length whole

    pub moves_are : moves ≡ written (moves_on g out bits₀ (Some first)) moves₀
    moves_are = w.list ∙ ap (λ (t : List ℕ). written t moves₀) whole

    pub bits_are : bits ≡ bits_after g out bits₀ (Some first)
    unfolding bits_after
    bits_are = sym (ap (bits_after g out bits) is) ∙ w.after
