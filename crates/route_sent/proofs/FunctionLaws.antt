-- The function that sends a packet is in the sheet and has the ID that the packet names. Assumes nothing.
use Rattle.std.specs.Prelude.{◌≡◌, true, List, ℕ, ◌/◌, ◌%◌, ◌<◌}
use Rattle.std.proofs.Common.{sym, ap, subst, ◌∙◌, arith}
use Rattle.lists.specs.Lists.{◌∈◌}
use Rattle.packet.specs.declared.Packet.{Packet}
use Rattle.pools.specs.declared.Space.TheVariants.{Memory}
use Rattle.walk.specs.Registers.{Node, Registers}
use Rattle.walk.proofs.RegistersLaws.{nodes_elim, number_ge, number_unique}
use Rattle.walk.specs.Ids.{has_id}
use Rattle.walk.proofs.IdsLaws.{has_id_elim}
use Rattle.sheet.specs.Sheet.{entries_of}
use Rattle.sheet.specs.Spaces.{registers_of, nodes_of}
use Rattle.sheet.proofs.SheetLaws.{numbered_functions, nodes_functions}
use Rattle.route_sender.specs.declared.Sender.TheVariants.{Function}
use Rattle.route_sender.specs.Sender.{named_by, sender_of}
use Rattle.route_sender.specs.SenderLaws.{named_elim}
use Rattle.route_sent.specs.Going.{IsSender}

pub is_sender : (s : List ℕ) (number id : ℕ) (n : Node) → n ∈ nodes_of s → n.number ≡ number → has_id (id / 256) (id % 256) n ≡ true
    → IsSender s number id
is_sender s number id n m is h =
    record {
      from_1 = from_1;
      numbers = numbers;
      has_own = λ k mk same. subst (λ (j : Node). (j.bus ≡ id / 256) × (j.devfn ≡ id % 256)) (numbers n k m mk (is ∙ sym same))
          (has_id_elim (id / 256) (id % 256) n h);
    }
  where
    found : (k : Node) → k ∈ nodes_of s → (f : Registers) × (f ∈ registers_of Memory s) × (f.node ≡ k)
    found k mk =
        nodes_elim (registers_of Memory s) (subst (λ (ns : List Node). k ∈ ns) (sym (nodes_functions Memory 1 (entries_of s))) mk)

    from_1 : (k : Node) → k ∈ nodes_of s → 0 < k.number
    from_1 k mk =
        let (f, mf, same) = found k mk in
        omega (
          arith,
          number_ge 1 (registers_of Memory s) f (numbered_functions Memory 1 (entries_of s)) mf,
          ap (λ (j : Node). j.number) same,
        )

    numbers : (k j : Node) → k ∈ nodes_of s → j ∈ nodes_of s → k.number ≡ j.number → k ≡ j
    numbers k j mk mj e =
        let (f, mf, is_k) = found k mk in
        let (g, mg, is_j) = found j mj in
        let same : f.node.number ≡ g.node.number =
        ap (λ (i : Node). i.number) is_k ∙ e ∙ sym (ap (λ (i : Node). i.number) is_j) in
        sym is_k
        ∙ ap (λ (z : Registers). z.node)
        (number_unique 1 (registers_of Memory s) f g (numbered_functions Memory 1 (entries_of s)) mf mg same)
        ∙ is_j

pub sender_is : (host_id : ℕ) (p : Packet) (s : List ℕ) (number : ℕ) → sender_of host_id p s ≡ Function number → IsSender s number (named_by p)
sender_is host_id p s number e =
    let n = named_elim host_id p s number e in is_sender s number (named_by p) n.function n.in_sheet n.number_is n.has_id_lem
