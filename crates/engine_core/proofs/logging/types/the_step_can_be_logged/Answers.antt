use Rattle.engine_core.proofs.logging.types.the_step_can_be_logged.Goals as goal
