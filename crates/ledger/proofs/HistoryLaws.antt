-- What an opening and a completion do at their place, and that opened is closed plus in use after every history. Assumes nothing.
use Rattle.std.specs.Prelude.{Some, None, ◌≡◌, refl, true, cond, List, [], ◌∷◌, ℕ, ◌+◌, ◌*◌, ◌≤◌, ◌<◌, length, get_or}
use Rattle.std.proofs.Common.{sym, ap, subst, ◌∙◌, arith, length-set}
use Rattle.std.proofs.lemmas.List.{length-replicate}
use Rattle.endian.specs.Endian.{Bytes}
use Rattle.pairs.specs.declared.Kind.{Kind}
use Rattle.pairs.specs.declared.Kind.TheVariants.{Memory as MemoryKind, Io as IoKind, Config as ConfigKind, Completion as CompletionKind}
use Rattle.pairs.specs.declared.Kind.TheVariants.{Message as MessageKind, FetchAdd, Swap, Cas}
use Rattle.pairs.specs.declared.MemoryKind.TheVariants.{MRd, MRdLk, MWr}
use Rattle.pairs.specs.declared.IoKind.TheVariants.{IORd, IOWr}
use Rattle.pairs.specs.declared.ConfigKind.TheVariants.{CfgRd0, CfgWr0, CfgRd1, CfgWr1}
use Rattle.packet.specs.declared.Packet.{Packet}
use Rattle.packet.specs.declared.Packet.TheVariants.{Memory, Io, Config, Completion, Message}
use Rattle.packet.specs.Fields.{kind_of, head_of}
use Rattle.packet.specs.Widths.{length_fits}
use Rattle.packet.proofs.WidthsLaws.{fields_fit_elim, length_in_elim}
use Rattle.packet.proofs.VerdictLaws.{lawful_elim}
use Rattle.tlp.specs.RoundTrip.{read_lawful}
use Rattle.ledger.specs.declared.Verdict.{Verdict}
use Rattle.ledger.specs.declared.Verdict.TheVariants.{Opened, Kept, Closed, Refused}
use Rattle.ledger.specs.Kinds.{kind_reads, kind_configures, kind_locks}
use Rattle.ledger.specs.Words.{half, key_in, left_in, is_read, is_config, is_locked, in_use}
use Rattle.ledger.proofs.PlacesLaws.{place_holds, used_of_key, used_of_free, in_use_set, in_use_zeros}
use Rattle.ledger.proofs.PlacesLaws.{word_used, key_in_word, left_in_word, is_read_word, is_config_word, is_locked_word}
use Rattle.ledger.proofs.PlacesLaws.{key_in_less, left_in_less, is_read_less, is_config_less, is_locked_less}
use Rattle.ledger.specs.Ledger.{class_of, key_for, words_after}
use Rattle.ledger.specs.History.{Call, verdict_of, after, is_opened, is_closed, opened, closed}
use Rattle.ledger.specs.History.{key_is, key_by}
use Rattle.ledger.specs.Standing.{Holds}
use Rattle.ledger.proofs.StepLaws.{Opens, Completes, Keeps, Step, opening, keeping, closing, refusing, step_of}

-- ## Length and keys

pub length_after_step : (ws : List ℕ) (v : Verdict) → length (words_after v ws) ≡ length ws
length_after_step ws (Opened i w) = length-set ws i w
length_after_step ws (Kept i w) = length-set ws i w
length_after_step ws (Closed i) = length-set ws i 0
length_after_step ws (Refused n) = refl

pub length_after : (cs : List Call) → length (after cs) ≡ 256
unfolding after
length_after [] = length-replicate {A = ℕ} 256 0
length_after (c ∷ cs) = length_after_step (after cs) (verdict_of c (after cs)) ∙ length_after cs

pub key_not_zero : (p : Packet) → key_is p ≡ 0 → ⊥
key_not_zero p e = omega (arith, e)

other_not : (n : ℕ) → None ≡ Some n → ⊥
other_not n e = let z : ◌≡◌ {A = ℕ} 0 1 = cc in omega arith

-- the three bits of a class are its kind's
record Bits (k : Kind) (n : ℕ) : Type 0 where
  pub small : n < 8
  pub reads : is_read n ≡ kind_reads k
  pub configures : is_config n ≡ kind_configures k
  pub locks : is_locked n ≡ kind_locks k

bits_of : (k : Kind) (m n : ℕ) → Bits k m → Some m ≡ Some n → Bits k n
bits_of k m n b e = let z : m ≡ n = cc in subst (λ (x : ℕ). Bits k x) z b

class_bits : (k : Kind) (n : ℕ) → class_of k ≡ Some n → Bits k n
class_bits (MemoryKind MRd) n e = bits_of _ 4 n (record { small = omega arith; reads = refl; configures = refl; locks = refl }) e
class_bits (MemoryKind MRdLk) n e = bits_of _ 5 n (record { small = omega arith; reads = refl; configures = refl; locks = refl }) e
class_bits (MemoryKind MWr) n e = absurd (other_not n e)
class_bits (IoKind IORd) n e = bits_of _ 4 n (record { small = omega arith; reads = refl; configures = refl; locks = refl }) e
class_bits (IoKind IOWr) n e = bits_of _ 0 n (record { small = omega arith; reads = refl; configures = refl; locks = refl }) e
class_bits (ConfigKind CfgRd0) n e = bits_of _ 6 n (record { small = omega arith; reads = refl; configures = refl; locks = refl }) e
class_bits (ConfigKind CfgWr0) n e = bits_of _ 2 n (record { small = omega arith; reads = refl; configures = refl; locks = refl }) e
class_bits (ConfigKind CfgRd1) n e = bits_of _ 6 n (record { small = omega arith; reads = refl; configures = refl; locks = refl }) e
class_bits (ConfigKind CfgWr1) n e = bits_of _ 2 n (record { small = omega arith; reads = refl; configures = refl; locks = refl }) e
class_bits (CompletionKind k) n e = absurd (other_not n e)
class_bits (MessageKind k routing) n e = absurd (other_not n e)
class_bits FetchAdd n e = absurd (other_not n e)
class_bits Swap n e = absurd (other_not n e)
class_bits Cas n e = absurd (other_not n e)

-- a request that the reader takes has 1 to 1,024 dwords
length_of_request : (p : Packet) (n : ℕ) → class_of (kind_of p) ≡ Some n → length_fits p ≡ true
    → (1 ≤ (head_of p).length) × ((head_of p).length ≤ 1024)
unfolding length_fits
length_of_request (Memory k h e a) n c f = length_in_elim h.length f
length_of_request (Io k h e a) n c f = length_in_elim h.length f
length_of_request (Config k h e t) n c f = length_in_elim h.length f
length_of_request (Completion k h o) n c f = absurd (other_not n c)
length_of_request (Message k h routing code tail) n c f = absurd (other_not n c)

-- the word of an opened request says what its header asks for
pub opens_holds : {s ws : List ℕ} {i w : ℕ} → Bytes s → Opens s ws i w → Holds w s 0
opens_holds {s} {ws} {i} {w} bytes o =
    let p = o.packet in
    let lawful = read_lawful s p bytes o.read in
    let fits = (fields_fit_elim p (lawful_elim lawful.0 p lawful.1).fits).length in
    let n = length_of_request p o.class o.non_posted fits in
    let bits = class_bits (kind_of p) o.class o.non_posted in
    let small : (head_of p).length * 8 + o.class < half = omega (arith, n.1, bits.small) in
    let key = key_is p in
    let dwords = (head_of p).length in
    let left : left_in w ≡ dwords = ap left_in o.word ∙ left_in_word key dwords o.class small bits.small in
    record {
      packet = p;
      read = o.read;
      key = ap key_in o.word ∙ key_in_word key dwords o.class small;
      reads = ap is_read o.word ∙ is_read_word key dwords o.class ∙ bits.reads;
      configures = ap is_config o.word ∙ is_config_word key dwords o.class ∙ bits.configures;
      locks = ap is_locked o.word ∙ is_locked_word key dwords o.class ∙ bits.locks;
      left = omega (arith, left);
      some = omega (arith, left, n.0);
    }

pub opens_key : {s ws : List ℕ} {i w : ℕ} → Bytes s → (o : Opens s ws i w) → key_in w ≡ key_is o.packet
opens_key {s} bytes o = let holds = opens_holds bytes o in holds.key ∙ ap key_by (sym holds.read ∙ o.read)

-- ## Places by verdict

pub opens_free : {s ws : List ℕ} {i w : ℕ} → Opens s ws i w → key_in (get_or ws i 0) ≡ 0
opens_free {s} {ws} {i} {w} o =
    ap (λ (j : ℕ). key_in (get_or ws j 0)) o.first ∙ place_holds 0 ws (omega (arith, o.first, o.inside))

pub opens_used : {s ws : List ℕ} {i w : ℕ} → Opens s ws i w → key_in w ≡ 0 → ⊥
opens_used {s} {ws} {i} {w} o e =
    word_used (key_is o.packet) (head_of o.packet).length o.class (key_not_zero o.packet) (sym (ap key_in o.word) ∙ e)

pub completes_key : {s ws : List ℕ} {i : ℕ} → (t : Completes s ws i) → key_in (get_or ws i 0) ≡ key_for t.head
completes_key {s} {ws} {i} t =
    ap (λ (j : ℕ). key_in (get_or ws j 0)) t.found
    ∙ place_holds (key_for t.head) ws (omega (arith, t.found, t.inside))

pub completes_used : {s ws : List ℕ} {i : ℕ} → Completes s ws i → key_in (get_or ws i 0) ≡ 0 → ⊥
completes_used t e = omega (arith, sym (completes_key t) ∙ e)

-- what stays open is the same request, with some dwords less to come
pub record StaysOpen (v w dwords : ℕ) : Type 0 where
  pub key : key_in w ≡ key_in v
  pub reads : is_read w ≡ is_read v
  pub configures : is_config w ≡ is_config v
  pub locks : is_locked w ≡ is_locked v
  pub left : left_in w + dwords ≡ left_in v

pub keeps_open : {s ws : List ℕ} {i w : ℕ} → (k : Keeps s ws i w) → StaysOpen (get_or ws i 0) w k.completes.head.length
keeps_open {s} {ws} {i} {w} k =
    let v = get_or ws i 0 in
    let dwords = k.completes.head.length in
    let enough : dwords ≤ left_in v = omega (arith, k.part) in
    record {
      key = ap key_in k.word ∙ key_in_less v dwords enough;
      reads = ap is_read k.word ∙ is_read_less v dwords enough;
      configures = ap is_config k.word ∙ is_config_less v dwords enough;
      locks = ap is_locked k.word ∙ is_locked_less v dwords enough;
      left = ap (λ (x : ℕ). left_in x + dwords) k.word ∙ left_in_less v dwords enough;
    }

-- ## Opened, closed and in use

in_use_step : (ws : List ℕ) (c : Call) (v : Verdict) → Step ws c v
    → in_use (words_after v ws) + cond (is_closed v) 1 0 ≡ in_use ws + cond (is_opened v) 1 0
in_use_step ws c v (opening {s} {i} {w} o) =
    omega (arith, in_use_set ws i w o.inside, used_of_free (get_or ws i 0) (opens_free o), used_of_key w (opens_used o))
in_use_step ws c v (keeping {s} {i} {w} k) =
    omega (
      arith,
      in_use_set ws i w k.completes.inside,
      used_of_key (get_or ws i 0) (completes_used k.completes),
      used_of_key w (λ e. completes_used k.completes (sym (keeps_open k).key ∙ e)),
    )
in_use_step ws c v (closing {s} {i} t) =
    omega (
      arith,
      in_use_set ws i 0 t.inside,
      used_of_key (get_or ws i 0) (completes_used t),
      used_of_free 0 refl,
    )
in_use_step ws c v refusing = refl

pub counted : (cs : List Call) → opened cs ≡ closed cs + in_use (after cs)
unfolding opened closed after
counted [] = omega (arith, in_use_zeros 256)
counted (c ∷ cs) =
    let v = verdict_of c (after cs) in
    omega (arith, counted cs, in_use_step (after cs) c v (step_of c (after cs)))
