use Rattle.file_layer.proofs.ShownFiles.{found_is_shown, shows_files, shows_some}
use Rattle.file_layer.proofs.ShownOpens.{shows_opens}
use Rattle.file_layer.proofs.SomeFiles.{some_known}
use Rattle.file_layer.proofs.laws.files_are_shown.Goals as goal

pub returns-clause-files : goal.returns-clause-files
returns-clause-files c = shows_files

pub returns-clause-found : goal.returns-clause-found
returns-clause-found c = found_is_shown

pub returns-clause-some : goal.returns-clause-some
returns-clause-some c = shows_some

pub returns-clause-opens : goal.returns-clause-opens
returns-clause-opens c = shows_opens

pub returns-clause-known : goal.returns-clause-known
returns-clause-known c = some_known
