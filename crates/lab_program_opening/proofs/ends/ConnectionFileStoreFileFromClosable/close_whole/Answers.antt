-- The files that the close gave back are those that are left.
use Rattle.lab_program_opening.proofs.ends.ConnectionFileStoreFileFromClosable.close_whole.Goals as goal

pub returns-in-Ok : goal.returns-in-Ok
returns-in-Ok g c = record { files = c.in-Ok.files; copied = c.in-Ok.ensures.copied }
