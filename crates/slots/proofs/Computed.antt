-- The rows of slots, computed: `rows`.
use mathlib.Core.Path.{refl}
use Rattle.slots.specs.Slots.{ticked, idled, slot_level, begins, served, found, highest, chosen}
use Rattle.slots.specs.Claims.{goes_to, leaves, service_of, next, turn_of}
use Rattle.slots.specs.Rows.{levels, is_in, ready, channel_of, go_to, against, SlotRows}

pub rows : SlotRows
unfolding ticked idled slot_level begins served found highest chosen goes_to leaves service_of next turn_of levels is_in ready channel_of go_to against
rows =
    record {
      row-levels = refl;
      row-busy = refl;
      row-alone = (refl, refl);
      row_ends = refl;
      row-handed = (refl, refl);
      row-idle = refl;
      row-worst = (refl, refl);
    }
