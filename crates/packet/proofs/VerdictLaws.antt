-- A lawful packet is one whose row is carried, whose fields fit and which breaks none of rules 4 to 9: both ways. Assumes nothing.
use Rattle.std.specs.Prelude.{ℕ, ◌<◌, ◌^◌, ◌≡◌, refl, Bool, true, false, cond, eqb}
use Rattle.std.proofs.Common.{eqb-true, arith}
use Rattle.arith.specs.BoolLaws.{both_of_and}
use Rattle.pairs.specs.declared.Row.{Row}
use Rattle.pairs.specs.declared.Pair.{Pair}
use Rattle.pairs.specs.declared.Pair.TheVariants.{Carried, NotCarried, Unknown}
use Rattle.pairs.specs.Pairs.{row_of}
use Rattle.pairs.specs.declared.MemoryKind.{MemoryKind}
use Rattle.pairs.specs.declared.IoKind.{IoKind}
use Rattle.pairs.specs.declared.ConfigKind.{ConfigKind}
use Rattle.pairs.specs.declared.CompletionKind.{CompletionKind}
use Rattle.pairs.specs.declared.MessageKind.{MessageKind}
use Rattle.pairs.specs.declared.MessageRouting.{MessageRouting}
use Rattle.packet.specs.declared.Head.{Head}
use Rattle.packet.specs.declared.Enables.{Enables}
use Rattle.packet.specs.declared.Target.{Target}
use Rattle.packet.specs.declared.Outcome.{Outcome}
use Rattle.packet.specs.declared.Packet.{Packet}
use Rattle.packet.specs.declared.Packet.TheVariants.{Memory, Io, Config, Completion, Message}
use Rattle.packet.specs.declared.Verdict.TheVariants.{Lawful, Refused}
use Rattle.packet.specs.Fields.{kind_of, head_of, is_posted}
use Rattle.packet.specs.Widths.{enables_fit, address_fits, target_fits, body_fits, fields_fit}
use Rattle.packet.proofs.WidthsLaws.{HeadBounds, head_bounds_elim, enables_fit_elim, target_fits_elim, OutcomeBounds}
use Rattle.packet.proofs.WidthsLaws.{outcome_bounds_elim, content_fits_elim, tag_fits_elim, FieldsFit, fields_fit_elim}
use Rattle.packet.specs.Rules.{rule_number}
use Rattle.packet.specs.Verdict.{verdict_of, on_pair, on_fields, on_rules}

pub record Passes (row : Row) (p : Packet) : Type 0 where
  pub carried : row_of (kind_of p) (head_of p).form ≡ Carried row
  pub fits : fields_fit p ≡ true
  pub rules : rule_number p ≡ 0

pub lawful_intro : (row : Row) (p : Packet) → Passes row p → verdict_of p ≡ Lawful row
unfolding verdict_of on_fields on_rules
lawful_intro row p l = simp (l.carried, l.fits, l.rules)

on_rules_lawful : (row r : Row) (n : ℕ) → on_rules r n ≡ Lawful row → (r ≡ row) × (n ≡ 0)
unfolding on_rules
on_rules_lawful row r n = go (eqb n 0) refl
  where
    go : (b : Bool) → eqb n 0 ≡ b → cond b (Lawful r) (Refused n) ≡ Lawful row → (r ≡ row) × (n ≡ 0)
    go true q e = (cc, eqb-true _ _ q)
    go false q e = let z : ◌≡◌ {A = ℕ} 0 1 = cc in (cc, omega arith)

pub lawful_elim : (row : Row) (p : Packet) → verdict_of p ≡ Lawful row → Passes row p
unfolding verdict_of on_fields
lawful_elim row p = on_pair_lem (row_of (kind_of p) (head_of p).form) refl
  where
    on_fits : (r : Row) → row_of (kind_of p) (head_of p).form ≡ Carried r → (b : Bool) → fields_fit p ≡ b
        → cond b (on_rules r (rule_number p)) (Refused 10) ≡ Lawful row → Passes row p
    on_fits r k true f e = let q = on_rules_lawful row r (rule_number p) e in record { carried = rw (← q.0) k; fits = f; rules = q.1 }
    on_fits r k false f e = let z : ◌≡◌ {A = ℕ} 0 1 = cc in absurd (omega arith)

    on_pair_lem : (q : Pair) → row_of (kind_of p) (head_of p).form ≡ q → on_pair q p ≡ Lawful row → Passes row p
    on_pair_lem (Carried r) k e = on_fits r k (fields_fit p) refl e
    on_pair_lem NotCarried k e = let z : ◌≡◌ {A = ℕ} 0 1 = cc in absurd (omega arith)
    on_pair_lem Unknown k e = let z : ◌≡◌ {A = ℕ} 0 1 = cc in absurd (omega arith)

-- ## The bounds of a lawful packet's fields, by kind

pub record RequestBounds (h : Head) (e : Enables) : Type 0 where
  pub head : HeadBounds h
  pub last : e.last < 16
  pub first : e.first < 16

fit_of_lawful : (row : Row) (p : Packet) → verdict_of p ≡ Lawful row → FieldsFit p
fit_of_lawful row p l = fields_fit_elim p (lawful_elim row p l).fits

pub head_of_lawful : (row : Row) (p : Packet) → verdict_of p ≡ Lawful row → HeadBounds (head_of p)
head_of_lawful row p l = head_bounds_elim (head_of p) (fit_of_lawful row p l).head

pub tag_of_lawful : (row : Row) (p : Packet) → verdict_of p ≡ Lawful row → is_posted (kind_of p) ≡ true → (head_of p).tag < 256
tag_of_lawful row p l = tag_fits_elim p (fit_of_lawful row p l).tag

request_bounds : (row : Row) (p : Packet) (e : Enables) → verdict_of p ≡ Lawful row → enables_fit e ≡ true → RequestBounds (head_of p) e
request_bounds row p e l f = let b = enables_fit_elim e f in record { head = head_of_lawful row p l; last = b.0; first = b.1 }

pub memory_of_lawful : (row : Row) (k : MemoryKind) (h : Head) (e : Enables) (a : ℕ) → verdict_of (Memory k h e a) ≡ Lawful row
    → RequestBounds h e × (address_fits h a ≡ true)
unfolding body_fits
memory_of_lawful row k h e a l =
    let b = both_of_and (enables_fit e) (address_fits h a) (fit_of_lawful row (Memory k h e a) l).body in
    (request_bounds row (Memory k h e a) e l b.0, b.1)

pub io_of_lawful : (row : Row) (k : IoKind) (h : Head) (e : Enables) (a : ℕ) → verdict_of (Io k h e a) ≡ Lawful row
    → RequestBounds h e × (address_fits h a ≡ true)
unfolding body_fits
io_of_lawful row k h e a l =
    let b = both_of_and (enables_fit e) (address_fits h a) (fit_of_lawful row (Io k h e a) l).body in
    (request_bounds row (Io k h e a) e l b.0, b.1)

pub config_of_lawful : (row : Row) (k : ConfigKind) (h : Head) (e : Enables) (t : Target) → verdict_of (Config k h e t) ≡ Lawful row
    → RequestBounds h e × (t.id < 65536) × (t.register < 1024)
unfolding body_fits
config_of_lawful row k h e t l =
    let b = both_of_and (enables_fit e) (target_fits t) (fit_of_lawful row (Config k h e t) l).body in
    let c = target_fits_elim t b.1 in
    (request_bounds row (Config k h e t) e l b.0, c.0, c.1)

pub completion_of_lawful : (row : Row) (k : CompletionKind) (h : Head) (o : Outcome) → verdict_of (Completion k h o) ≡ Lawful row
    → HeadBounds h × OutcomeBounds o
unfolding body_fits
completion_of_lawful row k h o l =
    (head_of_lawful row (Completion k h o) l, outcome_bounds_elim o (fit_of_lawful row (Completion k h o) l).body)

pub message_of_lawful : (row : Row) (k : MessageKind) (h : Head) (routing : MessageRouting) (code tail : ℕ)
    → verdict_of (Message k h routing code tail) ≡ Lawful row → HeadBounds h × (code < 256) × (tail < 2 ^ 64)
unfolding body_fits
message_of_lawful row k h routing code tail l =
    let p = Message k h routing code tail in
    let b = content_fits_elim code tail (fit_of_lawful row p l).body in
    (head_of_lawful row p l, b.0, b.1)
