use Rattle.test_notation.proofs.call_sequences.play_read_call.Goals as goal

pub returns-in-Noack : goal.returns-in-Noack
returns-in-Noack c = rw c.in-Noack.is c.noack.ensures

pub returns-in-Block : goal.returns-in-Block
returns-in-Block c = rw c.in-Block.is c.block.ensures

pub returns-in-Count : goal.returns-in-Count
returns-in-Count c = rw c.in-Count.is c.count.ensures

pub returns-in-Claim : goal.returns-in-Claim
returns-in-Claim c = rw c.in-Claim.is c.claim.ensures

pub returns-in-Group : goal.returns-in-Group
returns-in-Group c = rw c.in-Group.is c.group.ensures
