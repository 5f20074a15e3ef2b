-- The type of a DS2 file, what kind of reading it has, and what `detect_format` reports for it.
-- Assumes nothing.
use Rattle.std.specs.Prelude.{ℕ, zero, suc, ◌+◌, List, Bool, true, false, cond, length, ltb, eqb}
use Rattle.blocks.specs.Places.{whole_blocks}
use Rattle.blocks.specs.Headers.{count_of, type_of}
use Rattle.detect.specs.declared.Kind.{Kind}
use Rattle.detect.specs.declared.Kind.TheVariants.{Sp, Qp, Qp7}
use Rattle.detect.specs.declared.AudioFormat.{AudioFormat}
use Rattle.detect.specs.declared.AudioFormat.TheVariants.{Ds2Sp, Ds2Qp, Ds2Qp7}

-- of n blocks from number b on, byte 4 of the first with byte 2 above 0, else 0
unfoldable pub first_type : List ℕ → ℕ → ℕ → ℕ → ℕ
first_type f a zero b = 0
first_type f a (suc n) b = cond (ltb 0 (count_of f a b)) (type_of f a b) (first_type f a n (b + 1))

-- the type of a file whose audio starts at a
unfoldable pub format_type : List ℕ → ℕ → ℕ
format_type f a = first_type f a (whole_blocks (length f) a) 0

-- 0 to 5 are SP, 7 is QP7, and 6 and 8 to 255 are QP
unfoldable pub kind_of : ℕ → Kind
kind_of t = cond (ltb t 6) Sp (cond (eqb t 7) Qp7 Qp)

-- two kinds are the same
abbrev pub same_kind : Kind → Kind → Bool
same_kind Sp Sp = true
same_kind Sp Qp = false
same_kind Sp Qp7 = false
same_kind Qp Sp = false
same_kind Qp Qp = true
same_kind Qp Qp7 = false
same_kind Qp7 Sp = false
same_kind Qp7 Qp = false
same_kind Qp7 Qp7 = true

-- a type is read as this kind
abbrev pub read_as : ℕ → Kind → Bool
read_as t kind = same_kind (kind_of t) kind

-- 6 is reported as QP, 7 as QP7, and every other type as SP
unfoldable pub format_of : ℕ → AudioFormat
format_of t = cond (eqb t 7) Ds2Qp7 (cond (eqb t 6) Ds2Qp Ds2Sp)
