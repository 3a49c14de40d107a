use Rattle.std.proofs.Common.{refl, rules}
use Rattle.nesc_monitor.proofs.TextLemmas.{AreRefusedFor-long_commands, AreRefusedFor-long_schedule, GivesWhole-all}
use Rattle.nesc_monitor.proofs.texts.read_texts.Goals as goal

pub returns-in-Err-TooLong-clause-refused : goal.returns-in-Err-TooLong-clause-refused
returns-in-Err-TooLong-clause-refused g c =
    AreRefusedFor-long_commands _ _ (c.in-Err-TooLong.ensures.too_long (search rules)) record { same = refl; bytes = refl; faults = refl }

pub returns-in-Err-TooLong-read_text-clause-refused : goal.returns-in-Err-TooLong-read_text-clause-refused
returns-in-Err-TooLong-read_text-clause-refused g c =
    AreRefusedFor-long_schedule _ _ (GivesWhole-all _ _ _ c.in-Ok.ensures.whole c.in-Ok.ensures.within) (c.in-Err-TooLong-read_text.ensures.too_long (search rules))
