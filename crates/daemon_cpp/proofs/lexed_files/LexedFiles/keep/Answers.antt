use Rattle.daemon_cpp.specs.declared.lexed_files.LexedFiles.{LexedFiles}
use Rattle.daemon_cpp.proofs.KnownFiles.{one-more}
use Rattle.daemon_cpp.proofs.lexed_files.LexedFiles.keep.Goals as goal

pub returns : goal.returns
returns c = λ world is known.
    one-more world c.args.self.now (record { known = c.insert.new.self; room = c.args.self.now.room }) c.args.path c.args.text c.in_ok-insert.ensures.updates is known
