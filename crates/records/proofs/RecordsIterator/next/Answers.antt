-- `next` of `records::Records` gives the part at the cursor, and nothing where no record stands there. Assumes nothing.
use Rattle.std.proofs.Common.{◌≡◌, ℕ, ◌+◌, ◌≤◌, List, refl, ap, sym, ◌∙◌, length, take, drop, arith, rules}
use Rattle.records.specs.Records.{Parts, after, parts_of}
use Rattle.records.specs.RecordsLaws.{fits_at, parts_record, none_left}
use Rattle.records.proofs.RecordsIterator.next.Goals as goal
use Rattle.records.proofs.RecordsIterator.next.Goals.{In-Record}

fits : (c : In-Record) → c.args.self.now.at + 2 + c.in-Record.n ≤ length c.args.self.now.bytes.now
fits c = fits_at c.args.self.now.bytes.now c.args.self.now.at c.in-Record.n (sym c.next_at.ensures ∙ c.in-Record.is)

pub returns-in_default : goal.returns-in_default
returns-in_default c =
    let e = none_left c.args.self.now.bytes.now c.args.self.now.at (λ n q. c.in_default.not-Record n (c.next_at.ensures ∙ q)) in
    record { steps = (e, refl); goes = search rules }

pub part_at-part-requires : goal.part_at-part-requires
part_at-part-requires c = fits (goal.at.part_at-part-requires c).In-Record

pub overflow_add-self : goal.overflow_add-self
overflow_add-self c = omega (arith, fits (goal.at.overflow_add-self c).In-Record)

pub overflow_add-self-2 : goal.overflow_add-self-2
overflow_add-self-2 c = omega (arith, fits (goal.at.overflow_add-self-2 c).In-Record)

here : (c : In-Record) (part : List ℕ) → part ≡ take c.in-Record.n (drop (c.args.self.now.at + 2) c.args.self.now.bytes.now)
    → parts_of (drop c.args.self.now.at c.args.self.now.bytes.now)
    ≡ after part (parts_of (drop (c.args.self.now.at + 2 + c.in-Record.n) c.args.self.now.bytes.now))
here c part e = rw e (parts_record c.args.self.now.bytes.now c.args.self.now.at c.in-Record.n (sym c.next_at.ensures ∙ c.in-Record.is))

pub returns-clause-steps : goal.returns-clause-steps
returns-clause-steps c = here (goal.at.returns-clause-steps c).In-Record c.part_at-part.result.now c.part_at-part.ensures

pub returns-clause-goes : goal.returns-clause-goes
returns-clause-goes c =
    let e = ap (λ (r : Parts). length r.parts) (here (goal.at.returns-clause-goes c).In-Record c.part_at-part.result.now c.part_at-part.ensures) in
    search rules
