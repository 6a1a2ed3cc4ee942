use Rattle.text_fields.proofs.InstanceLaws.{who_is}
use Rattle.text_fields.proofs.instance.instances_have_one_text.Goals as goal

pub returns : goal.returns
returns c = who_is
