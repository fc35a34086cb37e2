use Rattle.ripemd_c.proofs.each.+write_records.Given as goal

abbrev pub decreases-write_records : goal.decreases-write_records
decreases-write_records g l = l.count
