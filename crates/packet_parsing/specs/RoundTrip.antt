-- A lawful packet's twenty numbers are taken for the same packet, whatever follows them, and numbers that are taken for a packet are
-- its numbers. Assumes nothing.
use Rattle.std.specs.Prelude.{ℕ, zero, suc, ◌+◌, ◌≤◌, ◌<◌, refl, Bool, true, false, cond, ◌||◌, List, [], ◌∷◌, ◌++◌, take, drop, ltb, eqb}
use Rattle.std.proofs.Common.{arith, add-zero, zero-add, add-suc, suc-add, sym, ◌∙◌, ⊎_elim, drop-cons}
use Rattle.std.proofs.Math.Path.{◌≡◌, ap}
use Rattle.std.proofs.lemmas.Bool.{false≢true}
use Rattle.std.proofs.Math.ListN.{length, get_or, length-append}
use borrow.Author.Tests.{le-ltb, eqb-true, eqb-false, ltb-false}
use Rattle.arith.specs.BoolLaws.{false_of_or}
use Rattle.pairs.specs.declared.Kind.{Kind}
use Rattle.pairs.specs.declared.Kind.TheVariants.{Memory as MemoryKind, Io as IoKind, Config as ConfigKind, Completion as CompletionKind}
use Rattle.pairs.specs.declared.Kind.TheVariants.{Message as MessageKind, FetchAdd, Swap, Cas}
use Rattle.pairs.specs.declared.MemoryKind.TheVariants.{MRd, MRdLk, MWr}
use Rattle.pairs.specs.declared.IoKind.TheVariants.{IORd, IOWr}
use Rattle.pairs.specs.declared.ConfigKind.TheVariants.{CfgRd0, CfgWr0, CfgRd1, CfgWr1}
use Rattle.pairs.specs.declared.CompletionKind.TheVariants.{Cpl, CplD, CplLk, CplDLk}
use Rattle.pairs.specs.declared.MessageKind.TheVariants.{Msg, MsgD}
use Rattle.pairs.specs.declared.MessageRouting.{MessageRouting}
use Rattle.pairs.specs.declared.MessageRouting.TheVariants.{ToRoot, ByAddress, ById, Broadcast, Local, Gathered}
use Rattle.pairs.specs.declared.Row.{Row}
use Rattle.pairs.specs.declared.Pair.{Pair}
use Rattle.pairs.specs.declared.Pair.TheVariants.{Carried, NotCarried, Unknown}
use Rattle.pairs.specs.Pairs.{routing_number, kind_number, row_of}
use Rattle.pairs.proofs.PairsLaws.{row_pair}
use Rattle.packet.specs.declared.Head.{Head}
use Rattle.packet.specs.declared.Packet.{Packet}
use Rattle.packet.specs.declared.Packet.TheVariants.{Memory, Io, Config, Completion, Message}
use Rattle.packet.specs.declared.Verdict.TheVariants.{Lawful}
use Rattle.packet.specs.Fields.{kind_of, head_of}
use Rattle.packet.specs.Verdict.{verdict_of}
use Rattle.packet.specs.Widths.{length_fits}
use Rattle.packet.proofs.WidthsLaws.{length_in_elim, address_fits_elim, fields_fit_elim}
use Rattle.packet.proofs.VerdictLaws.{lawful_elim, head_of_lawful, memory_of_lawful, io_of_lawful, config_of_lawful, completion_of_lawful}
use Rattle.packet.proofs.VerdictLaws.{message_of_lawful}
use Rattle.packet_parsing.specs.declared.Parsed.{Parsed}
use Rattle.packet_parsing.specs.declared.Parsed.TheVariants.{Accepted, Refused}
use Rattle.packet_numbers.specs.Numbers.{size, bit, message_code, kind_code, head_numbers, body_numbers, numbers_of}
use Rattle.packet_parsing.specs.Parsing.{routings, routing_at, is_reserved, kinds, last_kind, kind_at, head_most, by_address, by_target}
use Rattle.packet_parsing.specs.Parsing.{completing, messaging, any_above, Within, head_from, enables_from, target_from, outcome_from}
use Rattle.packet_parsing.specs.Parsing.{packet_as, on_pair, on_kind, from_kind, packet_of}
use Rattle.packet_numbers.specs.NumbersLaws.{length_numbers_of}
use Rattle.packet_parsing.specs.ParsingLaws.{none_of_within, within_of_none}

-- ## Bits and kinds

bit_read : (b : Bool) → eqb (bit b) 1 ≡ b
bit_read true = refl
bit_read false = refl

bit_most : (b : Bool) → bit b ≤ 1
bit_most true = omega arith
bit_most false = omega arith

bit_of_lem : (n : ℕ) → n ≤ 1 → bit (eqb n 1) ≡ n
bit_of_lem n h = go (eqb n 1) refl
  where
    go : (b : Bool) → eqb n 1 ≡ b → bit b ≡ n
    go true e = sym (eqb-true n 1 e)
    go false e = omega (arith, eqb-false n 1 e)

-- a routing stands in the list at its own number
routing_read : (routing : MessageRouting) → routing_at (routing_number routing) ≡ routing
unfolding routing_at routings
routing_read ToRoot = refl
routing_read ByAddress = refl
routing_read ById = refl
routing_read Broadcast = refl
routing_read Local = refl
routing_read Gathered = refl

routing_not_reserved : (routing : MessageRouting) → is_reserved (routing_number routing) ≡ false
routing_not_reserved ToRoot = refl
routing_not_reserved ByAddress = refl
routing_not_reserved ById = refl
routing_not_reserved Broadcast = refl
routing_not_reserved Local = refl
routing_not_reserved Gathered = refl

routing_most : (routing : MessageRouting) → routing_number routing ≤ 7
routing_most ToRoot = omega arith
routing_most ByAddress = omega arith
routing_most ById = omega arith
routing_most Broadcast = omega arith
routing_most Local = omega arith
routing_most Gathered = omega arith

-- a packet's kind stands in the list at its own number, and a message's with the routing at place 10
kind_read_lem : (p : Packet) (rest : List ℕ) → (kind_code p ≤ last_kind) × (kind_at (kind_code p) (get_or (body_numbers p ++ rest) 0 0) ≡ kind_of p)
unfolding kind_at kinds
kind_read_lem (Memory MRd h e a) rest = (omega arith, refl)
kind_read_lem (Memory MRdLk h e a) rest = (omega arith, refl)
kind_read_lem (Memory MWr h e a) rest = (omega arith, refl)
kind_read_lem (Io IORd h e a) rest = (omega arith, refl)
kind_read_lem (Io IOWr h e a) rest = (omega arith, refl)
kind_read_lem (Config CfgRd0 h e t) rest = (omega arith, refl)
kind_read_lem (Config CfgWr0 h e t) rest = (omega arith, refl)
kind_read_lem (Config CfgRd1 h e t) rest = (omega arith, refl)
kind_read_lem (Config CfgWr1 h e t) rest = (omega arith, refl)
kind_read_lem (Completion Cpl h o) rest = (omega arith, refl)
kind_read_lem (Completion CplD h o) rest = (omega arith, refl)
kind_read_lem (Completion CplLk h o) rest = (omega arith, refl)
kind_read_lem (Completion CplDLk h o) rest = (omega arith, refl)
kind_read_lem (Message Msg h routing code tail) rest = (omega arith, ap (MessageKind Msg) (routing_read routing))
kind_read_lem (Message MsgD h routing code tail) rest = (omega arith, ap (MessageKind MsgD) (routing_read routing))

-- what stands at a number of the list has that number, and a message the list's routing
abbrev Listed : MessageRouting → ℕ → Kind → Type 0
Listed routing n (MemoryKind k) = kind_number (MemoryKind k) ≡ n
Listed routing n (IoKind k) = kind_number (IoKind k) ≡ n
Listed routing n (ConfigKind k) = kind_number (ConfigKind k) ≡ n
Listed routing n (CompletionKind k) = kind_number (CompletionKind k) ≡ n
Listed routing n (MessageKind k own) = (message_code k ≡ n) × (own ≡ routing)
Listed routing n FetchAdd = Unit
Listed routing n Swap = Unit
Listed routing n Cas = Unit

abbrev ListedFrom : MessageRouting → ℕ → List Kind → Type 0
ListedFrom routing k [] = Unit
ListedFrom routing k (x ∷ xs) = Listed routing k x × ListedFrom routing (suc k) xs

listed_at : (routing : MessageRouting) (k : ℕ) (xs : List Kind) (d : Kind) → ListedFrom routing k xs → (i : ℕ) → i < length xs
    → Listed routing (k + i) (get_or xs i d)
listed_at routing k [] d l i h = absurd (omega arith)
listed_at routing k (x ∷ xs) d l zero h = rw (add-zero k) l.0
listed_at routing k (x ∷ xs) d l (suc i) h = rw (add-suc k i, ← suc-add k i) (listed_at routing (suc k) xs d l.1 i (omega arith))

messages_listed : (routing : MessageRouting) → ListedFrom routing 13 (MessageKind Msg routing ∷ MessageKind MsgD routing ∷ [])
messages_listed routing = ((refl, refl), ((refl, refl), tt))

kinds_listed : (routing : MessageRouting) → ListedFrom routing 0 (kinds routing)
unfolding kinds
kinds_listed routing =
    (refl, (refl, (refl, (refl, (refl, (refl, (refl, (refl, (refl, (refl, (refl, (refl, (refl, messages_listed routing)))))))))))))

kinds_fifteen : (routing : MessageRouting) → length (kinds routing) ≡ 15
unfolding kinds
kinds_fifteen routing = refl

kind_written : (n routing : ℕ) → n ≤ last_kind → Listed (routing_at routing) n (kind_at n routing)
unfolding kind_at
kind_written n routing h =
    let own = routing_at routing in
    rw (zero-add n) at (listed_at own 0 (kinds own) (MemoryKind MRd) (kinds_listed own) n (omega (arith, kinds_fifteen own)))

-- a number that fits and is not reserved is its routing's
routing_written : (n : ℕ) → is_reserved n ≡ false → n ≤ 7 → routing_number (routing_at n) ≡ n
unfolding routing_at routings
routing_written zero e h = refl
routing_written (suc zero) e h = refl
routing_written (suc (suc zero)) e h = refl
routing_written (suc (suc (suc zero))) e h = refl
routing_written (suc (suc (suc (suc zero)))) e h = refl
routing_written (suc (suc (suc (suc (suc zero))))) e h = refl
routing_written (suc (suc (suc (suc (suc (suc zero)))))) e h = absurd (false≢true (sym e))
routing_written (suc (suc (suc (suc (suc (suc (suc zero))))))) e h = absurd (false≢true (sym e))
routing_written (suc (suc (suc (suc (suc (suc (suc (suc n)))))))) e h = absurd (omega arith)

-- ## A packet's numbers are taken for the packet

head_read : (kind : ℕ) (h : Head) (rest : List ℕ) → head_from (head_numbers kind h ++ rest) ≡ h
unfolding head_from
head_read kind h rest = rw (bit_read h.td, bit_read h.ep)

form_most : (row : Row) (p : Packet) → verdict_of p ≡ Lawful row → (head_of p).form ≤ 4
form_most row p l =
    let r = row_pair (kind_of p) (head_of p).form (lawful_elim row p l).carried in
    ⊎_elim (λ e. omega (arith, r.1)) (λ e. omega (arith, r.1)) r.2.dwords

length_of_fits : (p : Packet) → length_fits p ≡ true → (head_of p).length ≤ 1024
unfolding length_fits
length_of_fits (Memory k h e a) f = (length_in_elim h.length f).1
length_of_fits (Io k h e a) f = (length_in_elim h.length f).1
length_of_fits (Config k h e t) f = (length_in_elim h.length f).1
length_of_fits (Completion Cpl h o) f = omega (arith, eqb-true h.length 0 f)
length_of_fits (Completion CplD h o) f = (length_in_elim h.length f).1
length_of_fits (Completion CplLk h o) f = omega (arith, eqb-true h.length 0 f)
length_of_fits (Completion CplDLk h o) f = (length_in_elim h.length f).1
length_of_fits (Message Msg h routing code tail) f = omega (arith, eqb-true h.length 0 f)
length_of_fits (Message MsgD h routing code tail) f = (length_in_elim h.length f).1

length_most : (row : Row) (p : Packet) → verdict_of p ≡ Lawful row → (head_of p).length ≤ 1024
length_most row p l = length_of_fits p (fields_fit_elim p (lawful_elim row p l).fits).length

-- ## A lawful packet's numbers are taken for the packet

head_within : (row : Row) (p : Packet) → verdict_of p ≡ Lawful row
    → Within 0 (last_kind ∷ 4 ∷ head_most) (head_numbers (kind_code p) (head_of p))
head_within row p l =
    let b = head_of_lawful row p l in
    let kind = (kind_read_lem p []).0 in
    let form = form_most row p l in
    let dwords = length_most row p l in
    let td = bit_most (head_of p).td in
    let ep = bit_most (head_of p).ep in
    omega arith

module _ (row : Row) (rest : List ℕ) where
  taken : (p : Packet) → verdict_of p ≡ Lawful row → packet_as (Refused 10) (kind_of p) (numbers_of p ++ rest) ≡ Accepted p
  unfolding numbers_of enables_from target_from outcome_from
  taken (Memory k h e a) l =
      let p = Memory k h e a in
      let head = head_within row p l in
      let b = memory_of_lawful row k h e a l in
      let wide = (address_fits_elim h a b.1).0 in
      let n = kind_number (MemoryKind k) in
      let after = body_numbers p ++ rest in
      rw (none_of_within by_address (head_numbers n h ++ after) (omega arith), head_read n h after)
  taken (Io k h e a) l =
      let p = Io k h e a in
      let head = head_within row p l in
      let b = io_of_lawful row k h e a l in
      let wide = (address_fits_elim h a b.1).0 in
      let n = kind_number (IoKind k) in
      let after = body_numbers p ++ rest in
      rw (none_of_within by_address (head_numbers n h ++ after) (omega arith), head_read n h after)
  taken (Config k h e t) l =
      let p = Config k h e t in
      let head = head_within row p l in
      let b = config_of_lawful row k h e t l in
      let n = kind_number (ConfigKind k) in
      let after = body_numbers p ++ rest in
      rw (none_of_within by_target (head_numbers n h ++ after) (omega arith), head_read n h after)
  taken (Completion k h o) l =
      let p = Completion k h o in
      let head = head_within row p l in
      let b = completion_of_lawful row k h o l in
      let bcm = bit_most o.bcm in
      let n = kind_number (CompletionKind k) in
      let after = body_numbers p ++ rest in
      rw (none_of_within completing (head_numbers n h ++ after) (omega arith), head_read n h after, bit_read o.bcm)
  taken (Message k h routing code tail) l =
      let p = Message k h routing code tail in
      let head = head_within row p l in
      let b = message_of_lawful row k h routing code tail l in
      let three = routing_most routing in
      let n = message_code k in
      let after = body_numbers p ++ rest in
      rw (routing_not_reserved routing, none_of_within messaging (head_numbers n h ++ after) (omega arith), head_read n h after)

  -- a lawful packet's numbers are taken for it, whatever follows them
  pub packet_of_numbers : (p : Packet) → verdict_of p ≡ Lawful row → packet_of (numbers_of p ++ rest) ≡ Accepted p
  unfolding packet_of from_kind on_kind numbers_of
  packet_of_numbers p l =
      let head = head_within row p l in
      let kind = kind_read_lem p rest in
      let enough : 20 ≤ length (numbers_of p ++ rest) = omega (arith, length-append (numbers_of p) rest, length_numbers_of p) in
      rw (
        le-ltb (length (numbers_of p ++ rest)) 20 enough,
        le-ltb last_kind (kind_code p) kind.0,
        le-ltb 4 (head_of p).form (omega arith),
        kind.1,
        (lawful_elim row p l).carried,
      )
      (taken p l)

-- ## Numbers that are taken for a packet are its numbers

-- the n elements from a place on
abbrev gets : ℕ → ℕ → List ℕ → List ℕ
gets zero at ns = []
gets (suc n) at ns = get_or ns at 0 ∷ gets n (suc at) ns

take_gets : (n at : ℕ) (ns : List ℕ) → at + n ≤ length ns → take n (drop at ns) ≡ gets n at ns
take_gets zero at ns h = refl
take_gets (suc n) at ns h = rw (drop-cons ns at 0 (omega arith)) (ap (get_or ns at 0 ∷◌) (take_gets n (suc at) ns (omega arith)))

-- a test that stood between a refusal and a packet
passed : (b : Bool) (n : ℕ) (q p : Packet) → cond b (Refused n) (Accepted q) ≡ Accepted p → (b ≡ false) × (q ≡ p)
passed true n q p e = absurd (let z : ◌≡◌ {A = ℕ} 0 1 = cc in omega arith)
passed false n q p e = (refl, cc)

past : (b : Bool) (n : ℕ) (q : Parsed) (p : Packet) → cond b (Refused n) q ≡ Accepted p → (b ≡ false) × (q ≡ Accepted p)
past true n q p e = absurd (let z : ◌≡◌ {A = ℕ} 0 1 = cc in omega arith)
past false n q p e = (refl, e)

zero_at : (ns : List ℕ) (i : ℕ) → get_or ns i 0 ≤ 0 → get_or ns i 0 ≡ 0
zero_at ns i h = omega arith

module _ (ns : List ℕ) (enough : size ≤ length ns) where
  given : (kind : Kind) (p : Packet) → Listed (routing_at (get_or ns 10 0)) (get_or ns 0 0) kind → packet_as (Refused 10) kind ns ≡ Accepted p
      → numbers_of p ≡ gets size 0 ns
  unfolding numbers_of head_from enables_from target_from outcome_from
  given (MemoryKind k) p n e =
      let q = passed (any_above by_address ns) 10 (Memory k (head_from ns) (enables_from ns) (get_or ns 12 0)) p e in
      let w = within_of_none by_address ns q.0 enough in
      rw (← q.1, n, bit_of_lem (get_or ns 4 0) (omega arith), bit_of_lem (get_or ns 5 0) (omega arith))
      (rw (
        zero_at ns 13 (omega arith),
        zero_at ns 14 (omega arith),
        zero_at ns 15 (omega arith),
        zero_at ns 16 (omega arith),
        zero_at ns 17 (omega arith),
        zero_at ns 18 (omega arith),
        zero_at ns 19 (omega arith),
      ))
  given (IoKind k) p n e =
      let q = passed (any_above by_address ns) 10 (Io k (head_from ns) (enables_from ns) (get_or ns 12 0)) p e in
      let w = within_of_none by_address ns q.0 enough in
      rw (← q.1, n, bit_of_lem (get_or ns 4 0) (omega arith), bit_of_lem (get_or ns 5 0) (omega arith))
      (rw (
        zero_at ns 13 (omega arith),
        zero_at ns 14 (omega arith),
        zero_at ns 15 (omega arith),
        zero_at ns 16 (omega arith),
        zero_at ns 17 (omega arith),
        zero_at ns 18 (omega arith),
        zero_at ns 19 (omega arith),
      ))
  given (ConfigKind k) p n e =
      let q = passed (any_above by_target ns) 10 (Config k (head_from ns) (enables_from ns) (target_from ns)) p e in
      let w = within_of_none by_target ns q.0 enough in
      rw (← q.1, n, bit_of_lem (get_or ns 4 0) (omega arith), bit_of_lem (get_or ns 5 0) (omega arith))
      (rw (
        zero_at ns 12 (omega arith),
        zero_at ns 15 (omega arith),
        zero_at ns 16 (omega arith),
        zero_at ns 17 (omega arith),
        zero_at ns 18 (omega arith),
        zero_at ns 19 (omega arith),
      ))
  given (CompletionKind k) p n e =
      let q = passed (any_above completing ns) 10 (Completion k (head_from ns) (outcome_from ns)) p e in
      let w = within_of_none completing ns q.0 enough in
      rw (← q.1, n, bit_of_lem (get_or ns 4 0) (omega arith), bit_of_lem (get_or ns 5 0) (omega arith), bit_of_lem (get_or ns 17 0) (omega arith))
      (rw (
        zero_at ns 10 (omega arith),
        zero_at ns 11 (omega arith),
        zero_at ns 12 (omega arith),
        zero_at ns 13 (omega arith),
        zero_at ns 14 (omega arith),
      ))
  given (MessageKind k routing) p n e =
      let packet = Message k (head_from ns) routing (get_or ns 11 0) (get_or ns 12 0) in
      let r = past (is_reserved (get_or ns 10 0)) 2 (cond (any_above messaging ns) (Refused 10) (Accepted packet)) p e in
      let q = passed (any_above messaging ns) 10 packet p r.1 in
      let w = within_of_none messaging ns q.0 enough in
      let own : routing_number routing ≡ get_or ns 10 0 = ap routing_number n.1 ∙ routing_written (get_or ns 10 0) r.0 (omega arith) in
      rw (← q.1, n.0, own, bit_of_lem (get_or ns 4 0) (omega arith), bit_of_lem (get_or ns 5 0) (omega arith))
      (rw (
        zero_at ns 13 (omega arith),
        zero_at ns 14 (omega arith),
        zero_at ns 15 (omega arith),
        zero_at ns 16 (omega arith),
        zero_at ns 17 (omega arith),
        zero_at ns 18 (omega arith),
        zero_at ns 19 (omega arith),
      ))
  given FetchAdd p n e = absurd (let z : ◌≡◌ {A = ℕ} 0 1 = cc in omega arith)
  given Swap p n e = absurd (let z : ◌≡◌ {A = ℕ} 0 1 = cc in omega arith)
  given Cas p n e = absurd (let z : ◌≡◌ {A = ℕ} 0 1 = cc in omega arith)

  given_by_pair : (pair : Pair) (kind : Kind) (p : Packet) → Listed (routing_at (get_or ns 10 0)) (get_or ns 0 0) kind
      → on_pair pair (packet_as (Refused 10) kind ns) ≡ Accepted p → numbers_of p ≡ gets size 0 ns
  given_by_pair (Carried row) kind p n e = given kind p n e
  given_by_pair NotCarried kind p n e = absurd (let z : ◌≡◌ {A = ℕ} 0 1 = cc in omega arith)
  given_by_pair Unknown kind p n e = absurd (let z : ◌≡◌ {A = ℕ} 0 1 = cc in omega arith)

-- numbers that are taken for a packet are its numbers
pub numbers_of_packet : (ns : List ℕ) (p : Packet) → packet_of ns ≡ Accepted p → (size ≤ length ns) × (numbers_of p ≡ take size ns)
unfolding packet_of from_kind on_kind
numbers_of_packet ns p e =
    let l = past (ltb (length ns) size) 11 (from_kind ns) p e in
    let enough = ltb-false (length ns) size l.0 in
    let outside = ltb last_kind (get_or ns 0 0) || ltb 4 (get_or ns 1 0) in
    let k = past outside 2 (on_kind ns) p l.1 in
    let inside = ltb-false last_kind (get_or ns 0 0) (false_of_or (ltb last_kind (get_or ns 0 0)) (ltb 4 (get_or ns 1 0)) k.0).0 in
    let kind = kind_at (get_or ns 0 0) (get_or ns 10 0) in
    let written = kind_written (get_or ns 0 0) (get_or ns 10 0) inside in
    (enough, given_by_pair ns enough (row_of kind (get_or ns 1 0)) kind p written k.1 ∙ sym (take_gets size 0 ns enough))
