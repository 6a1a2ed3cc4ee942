use Rattle.std.proofs.Common.{refl}
use Rattle.serde_json.proofs.OnLiterals.{serde_json_on_literals}
use Rattle.std.specs.Str.{chars, is_utf8}
use Rattle.std.specs.Char.{encode_utf8}
use Rattle.service_file.specs.Keys.{has_only, has_known_keys}
use Rattle.service_file.specs.Entries.{number_in, configured_in, list_of, join_of, partition_in, replicas_in, declared_in, partitions_of, again_of}
use Rattle.service_file.specs.Settings.{document_of, settings_of, service_of}
use Rattle.service_file.proofs.worked.worked_lines.Goals as goal

pub returns-clause-empty : goal.returns-clause-empty
unfolding serde_json_on_literals chars is_utf8 encode_utf8 number_in configured_in list_of join_of partition_in replicas_in declared_in partitions_of again_of has_only has_known_keys document_of settings_of service_of
returns-clause-empty c = refl

pub returns-clause-no_field : goal.returns-clause-no_field
unfolding serde_json_on_literals chars is_utf8 encode_utf8 number_in configured_in list_of join_of partition_in replicas_in declared_in partitions_of again_of has_only has_known_keys document_of settings_of service_of
returns-clause-no_field c = refl

pub returns-clause-everything : goal.returns-clause-everything
unfolding serde_json_on_literals chars is_utf8 encode_utf8 number_in configured_in list_of join_of partition_in replicas_in declared_in partitions_of again_of has_only has_known_keys document_of settings_of service_of
returns-clause-everything c = refl

pub returns-clause-twice : goal.returns-clause-twice
unfolding serde_json_on_literals chars is_utf8 encode_utf8 number_in configured_in list_of join_of partition_in replicas_in declared_in partitions_of again_of has_only has_known_keys document_of settings_of service_of
returns-clause-twice c = refl

pub returns-clause-unknown : goal.returns-clause-unknown
unfolding serde_json_on_literals chars is_utf8 encode_utf8 number_in configured_in list_of join_of partition_in replicas_in declared_in partitions_of again_of has_only has_known_keys document_of settings_of service_of
returns-clause-unknown c = refl

pub returns-clause-once : goal.returns-clause-once
unfolding serde_json_on_literals chars is_utf8 encode_utf8 number_in configured_in list_of join_of partition_in replicas_in declared_in partitions_of again_of has_only has_known_keys document_of settings_of service_of
returns-clause-once c = refl

pub returns-clause-instance : goal.returns-clause-instance
unfolding serde_json_on_literals chars is_utf8 encode_utf8 number_in configured_in list_of join_of partition_in replicas_in declared_in partitions_of again_of has_only has_known_keys document_of settings_of service_of
returns-clause-instance c = refl
