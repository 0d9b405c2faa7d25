-- A write's record as a list of eighteen bytes; scripts one after the other. Assumes nothing.
use Rattle.std.specs.Prelude.{◌≡◌, refl, Bool, true, false, cond, List, [], ◌∷◌, ◌++◌, ℕ, suc, ◌+◌, ◌*◌, ◌/◌, ◌%◌, ◌<◌, eqb, length}
use Rattle.std.proofs.Common.{sym, ap, ◌∙◌, append_assoc, arith, length-append}
use Rattle.endian.specs.Endian.{be_bytes}
use Rattle.pairs.specs.declared.ConfigKind.TheVariants.{CfgWr0, CfgWr1}
use Rattle.pairs.specs.Pairs.{table, first, find_kind, row_of}
use Rattle.tlp_layout.specs.Layout.{front_bytes, request_bytes, target_bytes, layout}
use Rattle.script_writes.specs.declared.Boot.{Boot}
use Rattle.script_writes.specs.Writes.{Write}
use Rattle.script_writes.specs.Script.{packet_with, packet_of, write_stride, four_of, write_part, write_bytes, next_tag, script_from}
use Rattle.script_writes.specs.Script.{tag_after}
use Rattle.script_writes.specs.ScriptLaws.{IsRegister, kind_byte}

layout_with : (t : Bool) (requester tag : ℕ) (w : Write)
    → layout (packet_with (cond t CfgWr0 CfgWr1) requester tag w)
    ≡ kind_byte t ∷ (tag / 512 * 128 + 0 + tag / 256 % 2 * 8 + 0) ∷ 0 ∷ 1
    ∷ (requester / 256 % 256) ∷ (requester / 1 % 256) ∷ (tag % 256) ∷ (0 + w.enables)
    ∷ (w.id / 256 % 256) ∷ (w.id / 1 % 256) ∷ (w.offset / 4 / 64) ∷ (w.offset / 4 % 64 * 4) ∷ []
unfolding layout row_of table first find_kind front_bytes request_bytes target_bytes be_bytes
layout_with true requester tag w = refl
layout_with false requester tag w = refl

-- in the words of the code
abbrev pub bytes_for : Bool → ℕ → ℕ → Write → List ℕ
bytes_for t requester tag w =
    0 ∷ 16 ∷ kind_byte t ∷ 0 ∷ 0 ∷ 1 ∷ (requester / 256) ∷ (requester % 256) ∷ tag ∷ w.enables
    ∷ (w.id / 256) ∷ (w.id % 256) ∷ 0 ∷ w.offset ∷ four_of w.bytes

pub write_bytes_lem : (boot : Boot) (tag : ℕ) (w : Write) → boot.requester < 65536 → tag < 256 → w.id < 65536 → IsRegister w.offset
    → write_bytes boot tag w ≡ bytes_for (eqb (w.id / 256) boot.root) boot.requester tag w
unfolding write_bytes be_bytes
write_bytes_lem boot tag w req small id r =
    let o : w.offset / 4 / 64 ≡ 0 = omega (arith, r.inside) in
    let o' : w.offset / 4 % 64 * 4 ≡ w.offset = omega (arith, r.inside, r.aligned) in
    let t : tag / 512 * 128 + 0 + tag / 256 % 2 * 8 + 0 ≡ 0 = omega arith in
    let t' : tag % 256 ≡ tag = omega arith in
    let q : boot.requester / 256 % 256 ≡ boot.requester / 256 = omega arith in
    let q' : boot.requester / 1 % 256 ≡ boot.requester % 256 = omega arith in
    let i : w.id / 256 % 256 ≡ w.id / 256 = omega arith in
    let i' : w.id / 1 % 256 ≡ w.id % 256 = omega arith in
    let e : 0 + w.enables ≡ w.enables = omega arith in
    rw (layout_with (eqb (w.id / 256) boot.root) boot.requester tag w, o, o', t, t', q, q', i, i', e)

-- ## Lengths

length_layout_with : (t : Bool) (requester tag : ℕ) (w : Write) → length (layout (packet_with (cond t CfgWr0 CfgWr1) requester tag w)) ≡ 12
length_layout_with t requester tag w = ap length (layout_with t requester tag w)

pub length_header : (boot : Boot) (tag : ℕ) (w : Write) → length (layout (packet_of boot tag w)) ≡ 12
length_header boot tag w = length_layout_with (eqb (w.id / 256) boot.root) boot.requester tag w

pub length_write_part : (boot : Boot) (tag : ℕ) (w : Write) → length (write_part boot tag w) ≡ 16
length_write_part boot tag w = length-append (layout (packet_of boot tag w)) (four_of w.bytes) ∙ rw (length_header boot tag w)

pub length_write_bytes : (boot : Boot) (tag : ℕ) (w : Write) → length (write_bytes boot tag w) ≡ write_stride
unfolding write_bytes be_bytes
length_write_bytes boot tag w = ap (λ (n : ℕ). suc (suc n)) (length_write_part boot tag w)

pub length_script : (boot : Boot) (tag : ℕ) (ws : List Write) → length (script_from boot tag ws) ≡ write_stride * length ws
unfolding script_from
length_script boot tag [] = refl
length_script boot tag (w ∷ ws) =
    length-append (write_bytes boot tag w) (script_from boot (next_tag tag) ws)
    ∙ rw (length_write_bytes boot tag w, length_script boot (next_tag tag) ws) (omega arith)

-- ## One after the other

pub script_append : (boot : Boot) (tag : ℕ) (ws vs : List Write)
    → script_from boot tag (ws ++ vs) ≡ script_from boot tag ws ++ script_from boot (tag_after tag ws) vs
unfolding script_from tag_after
script_append boot tag [] vs = refl
script_append boot tag (w ∷ ws) vs =
    ap (write_bytes boot tag w ++◌) (script_append boot (next_tag tag) ws vs)
    ∙ sym (append_assoc (write_bytes boot tag w) (script_from boot (next_tag tag) ws) (script_from boot (tag_after (next_tag tag) ws) vs))

pub tag_append : (tag : ℕ) (ws vs : List Write) → tag_after tag (ws ++ vs) ≡ tag_after (tag_after tag ws) vs
unfolding tag_after
tag_append tag [] vs = refl
tag_append tag (w ∷ ws) vs = tag_append (next_tag tag) ws vs

-- "one up each write, wrapping"
pub tag_is : (tag : ℕ) (ws : List Write) → tag < 256 → tag_after tag ws ≡ (tag + length ws) % 256
unfolding tag_after
tag_is tag [] small = omega arith
tag_is tag (w ∷ ws) small = tag_is (next_tag tag) ws (omega arith) ∙ omega arith
