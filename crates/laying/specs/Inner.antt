-- What only contracts of inner functions speak of: what a writer's steps do to the lent output, which are silent blocks laid, bytes put at a
-- place of the payload stream, over a block's end where need be, and a frame counted in the header of the block that it begins in; and what
-- the output holds between them. Assumes nothing.
use Rattle.std.specs.Prelude.{ℕ, suc, ◌+◌, ◌/◌, ◌<◌, ◌≡◌, List, Bool, false, cond, length, get_or, eqb}
use Rattle.tables.specs.Lent.{Leaves}
use Rattle.blocks.specs.Places.{file_of, block_at}
use Rattle.laying.specs.Laid.{Laid, size_for, file_byte, flag_byte, place_byte}

-- no frame, over a stream of zeros
abbrev pub no_frames : ℕ → Laid
no_frames kind = record { kind = kind; many = 0; at = λ k. 0; swap = λ k. false; stream = λ q. 0; end = 0 }

-- e is d but for n bytes of f, put at place q of the payload stream
pub record Puts (d : List ℕ) (q n : ℕ) (f : ℕ → ℕ) (e : List ℕ) : Type 0 where
  pub long : length e ≡ length d
  pub put : (i : ℕ) → i < n → get_or e (file_of 1536 (q + i)) 0 ≡ f i
  pub kept : (x : ℕ) → ((i : ℕ) → i < n → x ≡ file_of 1536 (q + i) → ⊥) → get_or e x 0 ≡ get_or d x 0

-- where the header of the block stands that place q lies in, and its count
abbrev pub head_at : ℕ → ℕ
head_at q = block_at 1536 (q / 506)

abbrev pub count_at : ℕ → ℕ
count_at q = head_at q + 2

-- bytes 0 to 2 of that header when one more frame is counted: if none was, bytes 0 and 1 tell of it
abbrev pub counted : List ℕ → ℕ → Bool → ℕ → ℕ
counted d q swap i =
    cond (eqb i 2) (get_or d (count_at q) 0 + 1)
    (cond (eqb (get_or d (count_at q) 0) 0) (cond (eqb i 0) (flag_byte swap) (place_byte q)) (get_or d (head_at q + i) 0))

-- e is d but for one frame more, at place q, counted there
abbrev pub Counts : List ℕ → ℕ → Bool → List ℕ → Type 0
Counts d q swap e = Leaves d (head_at q) 3 (counted d q swap) e

-- e is d with the file of what was laid over its front
abbrev pub Holds : List ℕ → List ℕ → Laid → List ℕ → Type 0
Holds d header l e = Leaves d 0 (size_for l) (file_byte header l) e

-- the same frames over another stream; and one frame more
abbrev pub streaming : Laid → (ℕ → ℕ) → Laid
streaming l s = record { kind = l.kind; many = l.many; at = l.at; swap = l.swap; stream = s; end = l.end }

abbrev pub one_more : Laid → Laid
one_more l = record { kind = l.kind; many = suc l.many; at = l.at; swap = l.swap; stream = l.stream; end = l.end }
