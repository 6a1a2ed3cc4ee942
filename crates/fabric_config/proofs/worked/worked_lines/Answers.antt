use Rattle.std.proofs.Common.{refl}
use Rattle.serde_json.proofs.OnLiterals.{serde_json_on_literals}
use Rattle.std.specs.Str.{chars, is_utf8}
use Rattle.std.specs.Char.{encode_utf8}
use Rattle.fabric_config.specs.Numbers.{required, optional}
use Rattle.fabric_config.specs.Points.{point_of}
use Rattle.fabric_config.specs.Entries.{list_of, address_of}
use Rattle.fabric_config.specs.Nodes.{point_in, node_of, nodes_of, first_of}
use Rattle.fabric_config.specs.Arbiters.{arbiter_of, arbiters_of}
use Rattle.fabric_config.specs.Config.{document_of, config_of, config_of_line}
use Rattle.fabric_config.proofs.worked.worked_lines.Goals as goal

pub returns-clause-read : goal.returns-clause-read
unfolding serde_json_on_literals chars is_utf8 encode_utf8 required optional point_of list_of address_of point_in node_of nodes_of first_of arbiter_of arbiters_of document_of config_of config_of_line
returns-clause-read c = refl

pub returns-clause-unknown_field : goal.returns-clause-unknown_field
unfolding serde_json_on_literals chars is_utf8 encode_utf8 required optional point_of list_of address_of point_in node_of nodes_of first_of arbiter_of arbiters_of document_of config_of config_of_line
returns-clause-unknown_field c = refl

pub returns-clause-cut_off : goal.returns-clause-cut_off
unfolding serde_json_on_literals chars is_utf8 encode_utf8 required optional point_of list_of address_of point_in node_of nodes_of first_of arbiter_of arbiters_of document_of config_of config_of_line
returns-clause-cut_off c = refl

pub returns-clause-missing : goal.returns-clause-missing
unfolding serde_json_on_literals chars is_utf8 encode_utf8 required optional point_of list_of address_of point_in node_of nodes_of first_of arbiter_of arbiters_of document_of config_of config_of_line
returns-clause-missing c = refl

pub returns-clause-out_of_range : goal.returns-clause-out_of_range
unfolding serde_json_on_literals chars is_utf8 encode_utf8 required optional point_of list_of address_of point_in node_of nodes_of first_of arbiter_of arbiters_of document_of config_of config_of_line
returns-clause-out_of_range c = refl

pub returns-clause-repeated : goal.returns-clause-repeated
unfolding serde_json_on_literals chars is_utf8 encode_utf8 required optional point_of list_of address_of point_in node_of nodes_of first_of arbiter_of arbiters_of document_of config_of config_of_line
returns-clause-repeated c = refl
