-- Kinds are told apart by number, and a kind and form by one number: the code's search by that number is the search by kind and form.
-- Assumes nothing.
use Rattle.std.specs.Prelude.{◌≡◌, refl, List, [], ◌∷◌, Bool, true, false, ◌&&◌, ℕ, ◌<◌, eqb, ltb, get_or}
use Rattle.std.proofs.Common.{ap, sym, ◌∙◌, arith, eqb-true, eq-eqb, ne_eqb, ltb-true}
use Rattle.std.proofs.lemmas.Bool.{eqb-false}
use Rattle.pairs.specs.declared.Row.{Row}
use Rattle.pairs.specs.declared.Kind.{Kind}
use Rattle.pairs.specs.declared.Kind.TheVariants.{Memory, Io, Config, Completion, Message, FetchAdd, Swap, Cas}
use Rattle.pairs.specs.declared.MemoryKind.TheVariants.{MRd, MRdLk, MWr}
use Rattle.pairs.specs.declared.IoKind.TheVariants.{IORd, IOWr}
use Rattle.pairs.specs.declared.ConfigKind.TheVariants.{CfgRd0, CfgWr0, CfgRd1, CfgWr1}
use Rattle.pairs.specs.declared.CompletionKind.TheVariants.{Cpl, CplD, CplLk, CplDLk}
use Rattle.pairs.specs.declared.MessageKind.TheVariants.{Msg, MsgD}
use Rattle.pairs.specs.declared.MessageRouting.TheVariants.{ToRoot, ByAddress, ById, Broadcast, Local, Gathered}
use Rattle.pairs.specs.declared.Name.{Name}
use Rattle.pairs.specs.declared.Name.TheVariants as name
use Rattle.pairs.specs.Pairs.{table, kind_named, kind_number, key_of, is_kind, is_key, find_kind, find_key}
use Rattle.pairs.proofs.FirstLaws.{first_same}

names : List Name
names =
    name.MRd ∷ name.MRdLk ∷ name.MWr ∷ name.IORd ∷ name.IOWr ∷ name.CfgRd0 ∷ name.CfgWr0 ∷ name.CfgRd1 ∷ name.CfgWr1 ∷ name.Cpl ∷
    name.CplD ∷ name.CplLk ∷ name.CplDLk ∷
    name.MsgToRoot ∷ name.MsgByAddress ∷ name.MsgById ∷ name.MsgBroadcast ∷ name.MsgLocal ∷ name.MsgGathered ∷
    name.MsgDToRoot ∷ name.MsgDByAddress ∷ name.MsgDById ∷ name.MsgDBroadcast ∷ name.MsgDLocal ∷ name.MsgDGathered ∷
    name.FetchAdd ∷ name.Swap ∷ name.Cas ∷ []

-- a kind's number is its name's place among the names, and fits a byte
abbrev name_of : Kind → Name
name_of k = get_or names (kind_number k) name.MRd

numbered : (k : Kind) → (kind_named (name_of k) ≡ k) × (ltb (kind_number k) 256 ≡ true)
unfolding names
numbered (Memory MRd) = (refl, refl)
numbered (Memory MRdLk) = (refl, refl)
numbered (Memory MWr) = (refl, refl)
numbered (Io IORd) = (refl, refl)
numbered (Io IOWr) = (refl, refl)
numbered (Config CfgRd0) = (refl, refl)
numbered (Config CfgWr0) = (refl, refl)
numbered (Config CfgRd1) = (refl, refl)
numbered (Config CfgWr1) = (refl, refl)
numbered (Completion Cpl) = (refl, refl)
numbered (Completion CplD) = (refl, refl)
numbered (Completion CplLk) = (refl, refl)
numbered (Completion CplDLk) = (refl, refl)
numbered (Message Msg ToRoot) = (refl, refl)
numbered (Message Msg ByAddress) = (refl, refl)
numbered (Message Msg ById) = (refl, refl)
numbered (Message Msg Broadcast) = (refl, refl)
numbered (Message Msg Local) = (refl, refl)
numbered (Message Msg Gathered) = (refl, refl)
numbered (Message MsgD ToRoot) = (refl, refl)
numbered (Message MsgD ByAddress) = (refl, refl)
numbered (Message MsgD ById) = (refl, refl)
numbered (Message MsgD Broadcast) = (refl, refl)
numbered (Message MsgD Local) = (refl, refl)
numbered (Message MsgD Gathered) = (refl, refl)
numbered FetchAdd = (refl, refl)
numbered Swap = (refl, refl)
numbered Cas = (refl, refl)

named : (n : Name) → name_of (kind_named n) ≡ n
unfolding names
named name.MRd = refl
named name.MRdLk = refl
named name.MWr = refl
named name.IORd = refl
named name.IOWr = refl
named name.CfgRd0 = refl
named name.CfgWr0 = refl
named name.CfgRd1 = refl
named name.CfgWr1 = refl
named name.Cpl = refl
named name.CplD = refl
named name.CplLk = refl
named name.CplDLk = refl
named name.MsgToRoot = refl
named name.MsgByAddress = refl
named name.MsgById = refl
named name.MsgBroadcast = refl
named name.MsgLocal = refl
named name.MsgGathered = refl
named name.MsgDToRoot = refl
named name.MsgDByAddress = refl
named name.MsgDById = refl
named name.MsgDBroadcast = refl
named name.MsgDLocal = refl
named name.MsgDGathered = refl
named name.FetchAdd = refl
named name.Swap = refl
named name.Cas = refl

pub kind_unique : (a b : Kind) → eqb (kind_number a) (kind_number b) ≡ true → a ≡ b
kind_unique a b h = sym (numbered a).0 ∙ ap (λ (n : ℕ). kind_named (get_or names n name.MRd)) (eqb-true _ _ h) ∙ (numbered b).0

pub name_unique : (a b : Name) → eqb (kind_number (kind_named a)) (kind_number (kind_named b)) ≡ true → a ≡ b
name_unique a b h = sym (named a) ∙ ap name_of (kind_unique (kind_named a) (kind_named b) h) ∙ named b

key_joined : (m n f g : ℕ) → m < 256 → n < 256 → eqb (key_of m f) (key_of n g) ≡ eqb m n && eqb f g
key_joined m n f g below below' = go (eqb m n) refl (eqb f g) refl
  where
    go : (x : Bool) → eqb m n ≡ x → (y : Bool) → eqb f g ≡ y → eqb (key_of m f) (key_of n g) ≡ x && y
    go true x true y = let a = eqb-true m n x in let b = eqb-true f g y in eq-eqb (key_of m f) (key_of n g) (omega (arith, a, b))
    go true x false y = let a = eqb-true m n x in let d = eqb-false f g y in ne_eqb (key_of m f) (key_of n g) (λ h. omega (arith, a, d, h))
    go false x y e = let d = eqb-false m n x in ne_eqb (key_of m f) (key_of n g) (λ h. omega (arith, below, below', d, h))

below : (k : Kind) → kind_number k < 256
below k = ltb-true (kind_number k) 256 (numbered k).1

pub find_key_lem : (kind : Kind) (form : ℕ) → find_key (key_of (kind_number kind) form) ≡ find_kind kind form
unfolding find_key find_kind
find_key_lem kind form =
    first_same (is_key (key_of (kind_number kind) form)) (is_kind kind form) table
    (λ (row : Row). let own = kind_named row.name in key_joined (kind_number own) (kind_number kind) row.form form (below own)
    (below kind))
