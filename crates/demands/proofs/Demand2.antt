-- Demand 2: "Every lawful packet written is read back the same, and every header read is written back to the same bytes." Over the layout
-- of document 01, for any room and any bytes that follow. Assumes nothing.
use Rattle.tlp.specs.RoundTrip.{read_write, write_read, lawful_read_iff}
use Rattle.demands.specs.Demand2.{Demand2}

pub demand_2 : Demand2
demand_2 = record { written_is_read_back = read_write; read_is_written_back = write_read; lawful_is_read = lawful_read_iff }
