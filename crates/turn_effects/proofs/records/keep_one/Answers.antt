use Rattle.keep_log.specs.Spellings.{spelling}
use Rattle.turn_effects.proofs.Growing.{encoded}
use Rattle.turn_effects.proofs.Keeping.{kept_failed, kept_short}
use Rattle.turn_effects.proofs.records.keep_one.Goals as goal

pub returns-in-Err-Failed : goal.returns-in-Err-Failed
returns-in-Err-Failed g c =
    kept_failed c.args.actor _ (spelling c.args.kept.now) _ _ c.in-Err-Failed.field-0 (encoded _ _ _ _ c.encode_record-length.ensures.written c.encode_record-length.ensures.length) c.in-Err-Failed.field-0-is c.in-Err-Failed.ensures

pub returns-in-Err-OutOfMemory : goal.returns-in-Err-OutOfMemory
returns-in-Err-OutOfMemory g c =
    kept_short c.args.actor _ (spelling c.args.kept.now) _ _ c.in-Err-OutOfMemory.field-0 (encoded _ _ _ _ c.encode_record-length.ensures.written c.encode_record-length.ensures.length) c.in-Err-OutOfMemory.ensures
