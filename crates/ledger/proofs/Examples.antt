-- A worked history: a ledger of two places, the calls made on it in turn, and the number of each. Assumes nothing.
use Rattle.std.specs.Prelude.{◌≡◌, refl, [], ◌∷◌, map}
use Rattle.endian.specs.Endian.{be}
use Rattle.pairs.specs.Pairs.{table, first, find_pair, pair_of}
use Rattle.packet.specs.Rules.{reserved_set, fixed_wrong, upper_zero, enables_wrong, crosses_page, status_wrong, from_rule5, from_rule6, from_rule7}
use Rattle.packet.specs.Rules.{from_rule8, from_rule9, rule_number}
use Rattle.tlp_fields.specs.Fields.{head_at, enables_at, address_at, target_at, outcome_at, unnamed, unnamed_target, unnamed_lower}
use Rattle.tlp.specs.Reading.{judged, read_of}
use Rattle.ledger.specs.Words.{place_of}
use Rattle.ledger.specs.Ledger.{on_request, opening_of, disagrees, on_success, settled, on_completion, completing_of}
use Rattle.ledger.specs.Examples.{numbers, rows}

pub examples : numbers (0 ∷ 0 ∷ []) (map (λ r. r.call) rows) ≡ map (λ r. r.number) rows
unfolding numbers be table first find_pair pair_of reserved_set fixed_wrong upper_zero enables_wrong crosses_page status_wrong from_rule5 from_rule6
    from_rule7 from_rule8 from_rule9 rule_number head_at enables_at address_at target_at outcome_at unnamed unnamed_target unnamed_lower judged read_of
    place_of on_request opening_of disagrees on_success settled on_completion completing_of
examples = refl
