-- A line of text as a state that each byte moves on: a comment, or a word and then bytes in hexadecimal. Assumes nothing.
use Rattle.std.specs.Prelude.{◌≡◌, ℕ, ◌+◌, ◌*◌, ◌%◌, cond, Option, Some, None, List, [], ◌∷◌, eqb}
use Rattle.text.specs.Digits.{value_of}
use Rattle.lines.specs.declared.Stage.{Stage}
use Rattle.lines.specs.declared.Stage.TheVariants.{Start, Comment, Letter, Space, Half, Byte, Wrong}
use Rattle.lines.specs.declared.Ended.{Ended}
use Rattle.lines.specs.declared.Ended.TheVariants.{Passed, Whole, Wrong as NotWhole}

-- 32 is a space, 35 is `#`

unfoldable pub first_of : ℕ → Stage
first_of byte = cond (eqb byte 32) Start (cond (eqb byte 35) Comment (Letter byte))

unfoldable pub letter_of : ℕ → Stage
letter_of byte = cond (eqb byte 32) Space (Letter byte)

abbrev pub half_of : Option ℕ → Stage
half_of (Some high) = Half high
half_of None = Wrong

unfoldable pub between_of : ℕ → Stage
between_of byte = cond (eqb byte 32) Space (half_of (value_of byte))

abbrev pub whole_of : ℕ → Option ℕ → Stage
whole_of high (Some low) = Byte (high % 16 * 16 + low % 16)
whole_of high None = Wrong

unfoldable pub second_of : ℕ → ℕ → Stage
second_of high byte = whole_of high (value_of byte)

abbrev pub next_of : Stage → ℕ → Stage
next_of Start byte = first_of byte
next_of Comment byte = Comment
next_of (Letter b) byte = letter_of byte
next_of Space byte = between_of byte
next_of (Half high) byte = second_of high byte
next_of (Byte b) byte = between_of byte
next_of Wrong byte = Wrong

abbrev pub ended_of : Stage → Ended
ended_of Start = Passed
ended_of Comment = Passed
ended_of (Letter b) = Whole
ended_of Space = Whole
ended_of (Half high) = NotWhole
ended_of (Byte b) = Whole
ended_of Wrong = NotWhole

-- What a line says: the letters of its word, its bytes, and how it ends
pub record Said : Type 0 where
  pub letters : List ℕ
  pub bytes : List ℕ
  pub end : Ended

abbrev pub with_letter : ℕ → Said → Said
with_letter b r = record { letters = b ∷ r.letters; bytes = r.bytes; end = r.end }

abbrev pub with_byte : ℕ → Said → Said
with_byte b r = record { letters = r.letters; bytes = b ∷ r.bytes; end = r.end }

abbrev pub shown : Stage → Said → Said
shown Start r = r
shown Comment r = r
shown (Letter b) r = with_letter b r
shown Space r = r
shown (Half high) r = r
shown (Byte b) r = with_byte b r
shown Wrong r = r

unfoldable pub said_of : Stage → List ℕ → Said
said_of stage [] = record { letters = []; bytes = []; end = ended_of stage }
said_of stage (b ∷ t) = shown (next_of stage b) (said_of (next_of stage b) t)

-- A text spells bytes: two digits each, of either case, with spaces between bytes as one likes
pub data Spells : List ℕ → List ℕ → Type 0 where
  ends : Spells [] []
  space : {t bs : List ℕ} → Spells t bs → Spells (32 ∷ t) bs
  byte : (a b : ℕ) {high low : ℕ} {t bs : List ℕ} → value_of a ≡ Some high → value_of b ≡ Some low → Spells t bs
      → Spells (a ∷ b ∷ t) ((high * 16 + low) ∷ bs)
