-- Worked examples of sheets, as one table under one claim: P8's and P10's sheets, each number with the check after it failing too, lookups,
-- and P10's registers as the walk has them. Assumes nothing.
use Rattle.std.specs.Prelude.{refl}
use Rattle.endian.specs.Endian.{be, le, le_bytes}
use Rattle.bar.specs.Bar.{size_from, sized, io_slot, narrow_slot, wide_slot, slot_here, slots}
use Rattle.bar.specs.Values.{is_bar_value, values_fit}
use Rattle.window.specs.Window.{closed, start, stop, is_nibbled}
use Rattle.records.specs.Records.{next_of, parts_over, parts_of}
use Rattle.lists.specs.Lists.{All}
use Rattle.sheet_record.specs.Spaces.{bars_from}
use Rattle.sheet_record.specs.Entry.{dwords, window_of, entry_of}
use Rattle.sheet.specs.Sheet.{all_sized, is_framed, entries_from, commands_of, all_zero, read_backs_wrong, breaks, any_breaks, find_from}
use Rattle.sheet.specs.Sheet.{has_id, id_twice, from29, from25, from28, from27, from24, from22, from20, from21, sheet_number}
use Rattle.sheet.specs.Lookup.{lookup_of}
use Rattle.sheet.specs.Spaces.{functions_from}
use Rattle.sheet.specs.Examples.{Holds, blank, examples}

pub examples_hold : All Holds examples
unfolding blank sheet_number from21 from20 from22 from24 from27 from28 from25 from29 is_framed all_sized entries_from commands_of breaks
    any_breaks all_zero read_backs_wrong find_from has_id id_twice lookup_of entry_of dwords window_of bars_from functions_from be le le_bytes next_of
    parts_over parts_of closed start stop is_nibbled is_bar_value values_fit slots slot_here wide_slot narrow_slot io_slot sized size_from
examples_hold = (
  refl,
  (
    refl,
    (
      refl,
      (
        refl,
        (
          refl,
          (
            refl,
            (
              refl,
              (
                refl,
                (
                  refl,
                  (
                    refl,
                    (
                      refl,
                      (
                        refl,
                        (
                          refl,
                          (
                            refl,
                            (
                              refl,
                              (
                                refl,
                                (
                                  refl,
                                  (
                                    refl,
                                    (
                                      refl,
                                      (
                                        refl,
                                        (refl, (refl, (refl, (refl, (refl, (refl, (refl, (refl, (refl, (refl, tt)))))))))),
                                      ),
                                    ),
                                  ),
                                ),
                              ),
                            ),
                          ),
                        ),
                      ),
                    ),
                  ),
                ),
              ),
            ),
          ),
        ),
      ),
    ),
  ),
)
