-- What is taken back is held, and leaves files and a journal that fit.
use Rattle.std.proofs.Common.{◌≡◌, None, sym, subst}
use Rattle.block_map.specs.Map.{with_owner}
use Rattle.file_layer.specs.Layer.{Fits}
use Rattle.file_layer.proofs.TakingBack.{fits_without}
use Rattle.file_layer.proofs.files.Files.give_back.Goals as goal

pub returns-in-Some-clause-fits : goal.returns-in-Some-clause-fits
returns-in-Some-clause-fits c =
    let is : c.take_back.new.self ≡ with_owner c.args.self.now.map c.in-Some.at None = c.in-Some.ensures.1 in
    subst (λ map. Fits (record c.args.self.now { map = map }) c.forget.new.self) (sym is) (fits_without c.args.self.now c.args.journal.now c.forget.new.self c.in-Some.at c.requires.fits c.forget.ensures)

pub returns-in_default-clause-taken : goal.returns-in_default-clause-taken
returns-in_default-clause-taken c = absurd (c.in_default.ensures.0 c.requires.stands.0 c.requires.stands.1)
