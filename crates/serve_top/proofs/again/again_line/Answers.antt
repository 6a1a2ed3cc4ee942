use Rattle.std.proofs.Common.{map, string_bytes}
use Rattle.serve_top.proofs.AgainRefusing.{refused_folders, refused_line}
use Rattle.serve_top.proofs.again.again_line.Goals as goal

pub returns-in-Err-clause-refused : goal.returns-in-Err-clause-refused
returns-in-Err-clause-refused c =
    refused_folders c.args.setup c.args.folders.now (map string_bytes c.args.names.now) c.in-Err.refusal c.refuse_again.result c.in-Err.ensures c.refuse_again.ensures

pub returns-clause-refused : goal.returns-clause-refused
returns-clause-refused c =
    let line = c.in-Err-line_of.ensures in
    refused_line c.args.setup c.args.folders.now (map string_bytes c.args.names.now) c.in-Ok.choice c.in-Err-line_of.refusal c.refuse_again-in-Err-line_of.result c.in-Ok.ensures line.refused line.unread c.refuse_again-in-Err-line_of.ensures
