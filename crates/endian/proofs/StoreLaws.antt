-- A part of a slice that std's bytes of a number were copied over holds the bytes of `be_bytes`, or of `le_bytes`. Assumes nothing.
use Rattle.std.specs.Prelude.{◌≡◌, refl, ℕ, zero, suc, ◌+◌, ◌-◌, ◌/◌, ◌%◌, ◌^◌, ◌≤◌, List, ◌∷◌, length}
use Rattle.std.proofs.Common.{sym, ap, ap₂, ◌∙◌, div-one, pow-suc}
use Rattle.std.proofs.Math.Nat.{div-div-eq-div-mul}
use Rattle.std.proofs.lemmas.List.Edits.{sets}
use Rattle.std.specs.Int.{byte_at, bytes_low_first, bytes_high_first}
use borrow.Rule.Slice.PartMut.{put_mid}
use Rattle.endian.specs.Endian.{be_bytes, le_bytes}
use Rattle.endian.specs.SetsLaws.{sets_of_copy}
use Rattle.endian.specs.EndianLaws.{length_be_bytes, length_le_bytes, be_bytes_low, le_bytes_low}

byte_is : (i x : ℕ) → byte_at i x ≡ x / 256 ^ i % 256
byte_is zero x = ap (λ (y : ℕ). y % 256) (sym (div-one x))
byte_is (suc i) x = refl

high_first : (n x : ℕ) → bytes_high_first n x ≡ be_bytes n x
unfolding be_bytes
high_first zero x = refl
high_first (suc n) x = ap₂ ◌∷◌ (byte_is n x) (high_first n x)

low_first : (i n x : ℕ) → bytes_low_first i n x ≡ le_bytes n (x / 256 ^ i)
unfolding le_bytes
low_first i zero x = refl
low_first i (suc n) x =
    let e : x / 256 ^ i / 256 ≡ x / 256 ^ suc i = rw (div-div-eq-div-mul x (256 ^ i) 256, ← pow-suc 256 i) in
    ap₂ ◌∷◌ (byte_is i x) (low_first (suc i) n x ∙ ap (le_bytes n) (sym e))

pub be_stored : (n : ℕ) (o : List ℕ) (at x : ℕ) {ys : List ℕ} → at + n ≤ length o → ys ≡ bytes_high_first n (x % 256 ^ n)
    → put_mid at (at + n - at) o ys ≡ sets o at (be_bytes n x)
be_stored n o at x h e =
    let f = e ∙ high_first n (x % 256 ^ n) ∙ be_bytes_low n x in
    rw f (sets_of_copy o at (at + n) (be_bytes n x) (ap (λ (k : ℕ). at + k) (length_be_bytes n x)) h)

pub le_stored : (n : ℕ) (o : List ℕ) (at x : ℕ) {ys : List ℕ} → at + n ≤ length o → ys ≡ bytes_low_first 0 n (x % 256 ^ n)
    → put_mid at (at + n - at) o ys ≡ sets o at (le_bytes n x)
le_stored n o at x h e =
    let f = e ∙ low_first 0 n (x % 256 ^ n) ∙ ap (le_bytes n) (div-one (x % 256 ^ n)) ∙ le_bytes_low n x in
    rw f (sets_of_copy o at (at + n) (le_bytes n x) (ap (λ (k : ℕ). at + k) (length_le_bytes n x)) h)
