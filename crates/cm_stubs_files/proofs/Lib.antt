mod CalledLaws
mod StubLaws
