-- After a line's word, the machine takes exactly the texts that spell bytes, and finds those bytes. Assumes nothing.
use Rattle.std.specs.Prelude.{◌≡◌, refl, ℕ, ◌+◌, ◌-◌, ◌*◌, ◌%◌, ◌≤◌, ◌<◌, Bool, true, false, cond, Option, Some, None, List, [], ◌∷◌, eqb, leb}
use Rattle.std.proofs.Common.{sym, ap, ◌∙◌, subst, mod-eq_of_lt, arith, true≢false, leb-true, eqb-true}
use Rattle.std.proofs.Math.Bool.{and-eq-true_iff}
use Rattle.text.specs.Digits.{is_within, value_of}
use Rattle.lines.specs.declared.Stage.TheVariants.{Space, Half, Byte, Wrong}
use Rattle.lines.specs.declared.Ended.{Ended}
use Rattle.lines.specs.declared.Ended.TheVariants.{Passed, Whole, Wrong as NotWhole}
use Rattle.lines.specs.Lines.{half_of, between_of, whole_of, second_of, Said, with_byte, said_of, Spells, ends, space, byte}

-- a digit is below 16, and a space is none

abbrev digit_of : Option ℕ → ℕ
digit_of (Some d) = d
digit_of None = 0

abbrev is_digit : Option ℕ → Bool
is_digit (Some d) = true
is_digit None = false

last_le : (first b last : ℕ) → is_within first b last ≡ true → b ≤ last
last_le first b last e = leb-true b last ((and-eq-true_iff (leb first b) (leb b last)).0 e).1

value_lt : (b : ℕ) → digit_of (value_of b) < 16
unfolding value_of
value_lt b = go (is_within 48 b 57) (is_within 65 b 70) (is_within 97 b 102) refl refl refl
  where
    go : (p q r : Bool) → is_within 48 b 57 ≡ p → is_within 65 b 70 ≡ q → is_within 97 b 102 ≡ r
        → digit_of (cond p (Some (b - 48)) (cond q (Some (b - 65 + 10)) (cond r (Some (b - 97 + 10)) None))) < 16
    go true q r e f g = omega (arith, last_le 48 b 57 e)
    go false true r e f g = omega (arith, last_le 65 b 70 f)
    go false false true e f g = omega (arith, last_le 97 b 102 g)
    go false false false e f g = omega arith

digit_lt : (b : ℕ) {d : ℕ} → value_of b ≡ Some d → d < 16
digit_lt b e = subst (λ x. digit_of x < 16) e (value_lt b)

space_value : value_of 32 ≡ None
unfolding value_of
space_value = refl

-- what comes after a space, and after a first digit

half_next : (a : ℕ) {high : ℕ} → value_of a ≡ Some high → between_of a ≡ Half high
unfolding between_of
half_next a {high} e = go (eqb a 32) refl
  where
    go : (p : Bool) → eqb a 32 ≡ p → cond p Space (half_of (value_of a)) ≡ Half high
    go true f =
        let g = ap (λ x. is_digit (value_of x)) (eqb-true a 32 f) in
        absurd (true≢false (sym (ap is_digit e) ∙ g ∙ ap is_digit space_value))
    go false f = ap half_of e

byte_next : (a b : ℕ) {high low : ℕ} → value_of a ≡ Some high → value_of b ≡ Some low → second_of high b ≡ Byte (high * 16 + low)
unfolding second_of
byte_next a b {high} {low} e f =
    let h : high % 16 ≡ high = mod-eq_of_lt (digit_lt a e) in
    let l : low % 16 ≡ low = mod-eq_of_lt (digit_lt b f) in
    ap (whole_of high) f ∙ rw (h, l)

-- after a byte as after a space

said_byte : (b : ℕ) (t : List ℕ) → said_of (Byte b) t ≡ said_of Space t
unfolding said_of
said_byte b [] = refl
said_byte b (x ∷ t) = refl

said_space : (t : List ℕ) → said_of Space (32 ∷ t) ≡ said_of Space t
unfolding said_of between_of
said_space t = refl

said_pair : (a b : ℕ) {high low : ℕ} (t : List ℕ) → value_of a ≡ Some high → value_of b ≡ Some low
    → said_of Space (a ∷ b ∷ t) ≡ with_byte (high * 16 + low) (said_of Space t)
unfolding said_of
said_pair a b {high} {low} t e f =
    let found = high * 16 + low in
    rw (half_next a e, byte_next a b e f) (ap (with_byte found) (said_byte found t))

-- the bytes that a text spells are found

abbrev pub spelled : List ℕ → Said
spelled bs = record { letters = []; bytes = bs; end = Whole }

said_none : said_of Space [] ≡ spelled []
unfolding said_of
said_none = refl

pub said_of_spells : {t bs : List ℕ} → Spells t bs → said_of Space t ≡ spelled bs
said_of_spells ends = said_none
said_of_spells (space {t} p) = said_space t ∙ said_of_spells p
said_of_spells (byte a b {high} {low} {t} e f p) = said_pair a b t e f ∙ ap (with_byte (high * 16 + low)) (said_of_spells p)

-- no other text is taken

abbrev is_whole : Ended → Bool
is_whole Passed = false
is_whole Whole = true
is_whole NotWhole = false

not_whole : {A : Type 0} {x : Ended} → x ≡ NotWhole → x ≡ Whole → A
not_whole e f = absurd (true≢false (sym (ap is_whole f) ∙ ap is_whole e))

said_wrong : (t : List ℕ) → (said_of Wrong t).end ≡ NotWhole
unfolding said_of
said_wrong [] = refl
said_wrong (b ∷ t) = said_wrong t

wrong_next : (a : ℕ) → eqb a 32 ≡ false → value_of a ≡ None → between_of a ≡ Wrong
unfolding between_of
wrong_next a e f = rw (e, f)

wrong_second : (high b : ℕ) → value_of b ≡ None → second_of high b ≡ Wrong
unfolding second_of
wrong_second high b e = ap (whole_of high) e

said_no_digit : (a : ℕ) (t : List ℕ) → eqb a 32 ≡ false → value_of a ≡ None → (said_of Space (a ∷ t)).end ≡ NotWhole
unfolding said_of
said_no_digit a t e f = rw (wrong_next a e f) (said_wrong t)

said_half : (a : ℕ) {high : ℕ} → value_of a ≡ Some high → (said_of Space (a ∷ [])).end ≡ NotWhole
unfolding said_of
said_half a e = rw (half_next a e)

said_one_digit : (a b : ℕ) {high : ℕ} (t : List ℕ) → value_of a ≡ Some high → value_of b ≡ None
    → (said_of Space (a ∷ b ∷ t)).end ≡ NotWhole
unfolding said_of
said_one_digit a b {high} t e f = rw (half_next a e, wrong_second high b f) (said_wrong t)

abbrev Spelling : List ℕ → Type 0
Spelling t = (said_of Space t).end ≡ Whole → Spells t (said_of Space t).bytes

spelling_of_said : (t : List ℕ) {r : Said} → said_of Space t ≡ r → (r.end ≡ Whole → Spells t r.bytes) → Spelling t
spelling_of_said t e on f = subst (λ (r : Said). Spells t r.bytes) (sym e) (on (sym (ap (λ (r : Said). r.end) e) ∙ f))

spelling_none : Spelling []
unfolding said_of
spelling_none e = ends

spelling_space : (a : ℕ) (t : List ℕ) → eqb a 32 ≡ true → Spelling t → Spelling (a ∷ t)
spelling_space a t e on =
    let spaced : Spelling (32 ∷ t) = spelling_of_said (32 ∷ t) (said_space t) (λ f. space (on f)) in
    subst (λ x. Spelling (x ∷ t)) (sym (eqb-true a 32 e)) spaced

spelling_one : (a : ℕ) → eqb a 32 ≡ false → Spelling (a ∷ [])
spelling_one a e = go (value_of a) refl
  where
    go : (d : Option ℕ) → value_of a ≡ d → Spelling (a ∷ [])
    go (Some high) f = not_whole (said_half a f)
    go None f = not_whole (said_no_digit a [] e f)

spelling_two : (a b : ℕ) (t : List ℕ) → eqb a 32 ≡ false → Spelling t → Spelling (a ∷ b ∷ t)
spelling_two a b t e on = go (value_of a) (value_of b) refl refl
  where
    go : (x y : Option ℕ) → value_of a ≡ x → value_of b ≡ y → Spelling (a ∷ b ∷ t)
    go None y f g = not_whole (said_no_digit a (b ∷ t) e f)
    go (Some high) None f g = not_whole (said_one_digit a b t f g)
    go (Some high) (Some low) f g = spelling_of_said (a ∷ b ∷ t) (said_pair a b t f g) (λ h. byte a b f g (on h))

pub spells_of_said : (t : List ℕ) → (said_of Space t).end ≡ Whole → Spells t (said_of Space t).bytes
spells_of_said [] = spelling_none
spells_of_said (a ∷ []) = go (eqb a 32) refl
  where
    go : (p : Bool) → eqb a 32 ≡ p → Spelling (a ∷ [])
    go true e = spelling_space a [] e spelling_none
    go false e = spelling_one a e
spells_of_said (a ∷ b ∷ t) = go (eqb a 32) refl (spells_of_said (b ∷ t)) (spells_of_said t)
  where
    go : (p : Bool) → eqb a 32 ≡ p → Spelling (b ∷ t) → Spelling t → Spelling (a ∷ b ∷ t)
    go true e next later = spelling_space a (b ∷ t) e next
    go false e next later = spelling_two a b t e later
