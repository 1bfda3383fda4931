use Rattle.engine_image.proofs.opening.OpenedImage.checked_engine.Goals as goal

pub check-requires : goal.check-requires
check-requires c = (c.requires.0, c.requires.1.is_opened)

pub engine-requires : goal.engine-requires
engine-requires c = (c.requires.0, record { of_bytes = c.requires.1; consistent = c.in-Ok.ensures c.requires.0 c.requires.1.is_opened })

pub returns-in-Ok : goal.returns-in-Ok
returns-in-Ok c image is = c.engine.ensures image (record { of_bytes = is; consistent = c.in-Ok.ensures image is.is_opened })

pub returns-in-Err : goal.returns-in-Err
returns-in-Err c image is = c.in-Err.ensures image is.is_opened
