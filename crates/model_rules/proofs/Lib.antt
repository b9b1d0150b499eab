mod AssignLaws
mod CheckLaws
